use Rattle.std.proofs.Common.{◌≡◌, ◌-◌, ◌<◌, List, [], ◌∷◌, ◌++◌, length, take, get_or, Option, Some, refl, sym, ap, ◌∙◌, arith, length-append}
use Rattle.std.specs.Prelude.{if◌then◌else◌, is_ok}
use Rattle.std.specs.FinMap.{put, is_sorted}
use Rattle.std.specs.List.{All}
use Rattle.std.specs.Option.{option_to_list}
use Rattle.std.proofs.lemmas.List.{length-take, get_or_at}
use Rattle.std.proofs.lemmas.List.Elements.{All-cons, All-nil, All-same, All-take}
use Rattle.xs_model.specs.Paths.{Path, path_cmp}
use Rattle.path_map.specs.Map.{Entries}
use Rattle.path_map.proofs.chunks.begin.Goals as goal

no_items : {X : Type 0} (xs : List X) → length xs ≡ 0 → xs ≡ []
no_items [] h = refl
no_items (x ∷ xs) h = absurd (omega (arith, h))

-- the last chunk to spare has no entry
last_unused : {X : Type 0} (v rest : List (Entries X)) (o : Option (Entries X)) (x : Entries X) → v ≡ rest ++ option_to_list o → o ≡ Some x → All (λ c. length c ≡ 0) v → x ≡ []
last_unused {X = X} v rest o x e is unused =
    let all : v ≡ rest ++ x ∷ [] = e ∙ ap (λ (p : Option (Entries X)). rest ++ option_to_list p) is in
    let here = unused (length rest) [] (omega (arith, ap length all, length-append rest (x ∷ []))) in
    no_items x (ap length (sym (ap (λ (l : List (Entries X)). get_or l (length rest) []) all ∙ get_or_at rest x [] [] (length rest) refl)) ∙ here)

pub put-requires-clause-rising : goal.put-requires-clause-rising
put-requires-clause-rising g c =
    let none = last_unused c.args.spare.now.items c.pop.new.self.items c.pop.result c.unwrap-first.result c.pop.ensures.items c.unwrap-first.ensures c.requires.laid_out.unused in
    ap (λ (t : Entries g.row.T.Denot). is_sorted path_cmp t) none

pub put-requires-clause-space : goal.put-requires-clause-space
put-requires-clause-space g c =
    let none = last_unused c.args.spare.now.items c.pop.new.self.items c.pop.result c.unwrap-first.result c.pop.ensures.items c.unwrap-first.ensures c.requires.laid_out.unused in
    omega (arith, ap length none)

one : {X : Type 0} (cs new : List (Entries X)) (first d : Entries X) (p : Path) (x : X) → length cs ≡ 0 → first ≡ [] → d ≡ put path_cmp p x first → new ≡ cs ++ d ∷ [] → new ≡ ((p, x) ∷ []) ∷ []
one {X = X} cs new first d p x none empty is e =
    e ∙ ap (λ (l : List (Entries X)). l ++ d ∷ []) (no_items cs none) ∙ ap (λ (t : Entries X). t ∷ []) (is ∙ ap (put path_cmp p x) empty)

pub returns-clause-one : goal.returns-clause-one
returns-clause-one g c =
    let none = last_unused c.args.spare.now.items c.pop.new.self.items c.pop.result c.unwrap-first.result c.pop.ensures.items c.unwrap-first.ensures c.requires.laid_out.unused in
    one c.args.chunks.now.items c.push.new.self.items c.unwrap-first.result c.put.new.self c.args.path c.args.item (omega (arith, c.requires.none, c.args.chunks.now.ok.0)) none c.put.ensures
    (c.push.ensures.items ∙ ap (λ r. if is_ok r then c.args.chunks.now.items ++ c.put.new.self ∷ [] else c.args.chunks.now.items) c.unwrap.ensures)

pub returns-clause-laid_out : goal.returns-clause-laid_out
returns-clause-laid_out g c =
    let none = last_unused c.args.spare.now.items c.pop.new.self.items c.pop.result c.unwrap-first.result c.pop.ensures.items c.unwrap-first.ensures c.requires.laid_out.unused in
    let is = one c.args.chunks.now.items c.push.new.self.items c.unwrap-first.result c.put.new.self c.args.path c.args.item (omega (arith, c.requires.none, c.args.chunks.now.ok.0)) none c.put.ensures
    (c.push.ensures.items ∙ ap (λ r. if is_ok r then c.args.chunks.now.items ++ c.put.new.self ∷ [] else c.args.chunks.now.items) c.unwrap.ensures) in
    record {
      filled = All-same (λ (d : Entries g.row.T.Denot). 0 < length d) c.push.new.self.items (((c.args.path, c.args.item) ∷ []) ∷ []) is (All-cons (λ (d : Entries g.row.T.Denot). 0 < length d) ((c.args.path, c.args.item) ∷ []) [] (omega arith) (All-nil (λ (d : Entries g.row.T.Denot). 0 < length d)));
      unused = All-same (λ (d : Entries g.row.T.Denot). length d ≡ 0) c.pop.new.self.items (take (c.args.spare.now.len - 1) c.args.spare.now.items) c.pop.ensures.rest (All-take (λ (d : Entries g.row.T.Denot). length d ≡ 0) (c.args.spare.now.len - 1) c.args.spare.now.items c.requires.laid_out.unused);
      space = omega (arith, ap length is, c.requires.laid_out.space, c.requires.none, c.args.chunks.now.ok.0, c.requires.spare, c.args.spare.now.ok.0, ap length c.pop.ensures.rest, length-take (c.args.spare.now.len - 1) c.args.spare.now.items, c.push.ensures.capacity);
    }
