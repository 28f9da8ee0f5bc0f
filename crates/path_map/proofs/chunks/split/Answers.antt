use Rattle.std.proofs.Common.{◌≡◌, ℕ, ◌+◌, ◌<◌, List, length, set, take, drop, get_or, [], ap, sym, ◌∙◌, arith}
use Rattle.std.specs.Prelude.{if◌then◌else◌, is_ok}
use Rattle.std.specs.List.{insert}
use Rattle.std.proofs.lemmas.List.{get_or_read}
use Rattle.path_map.specs.Map.{Entries}
use Rattle.path_map.specs.Chunks.{half, halved}
use Rattle.path_map.proofs.Halved.{halved_is, back_is}
use Rattle.path_map.proofs.chunks.split.Goals as goal

module _ {T : Type 0} (cs : List (Entries T)) (i : ℕ) (c front back : Entries T) (h : i < length cs) (is : c ≡ get_or cs i c) (f : front ≡ take half c) (b : back ≡ drop half c) where
  own : c ≡ get_or cs i []
  own = get_or_read cs i c h is []

  back_own : back ≡ drop half (get_or cs i [])
  back_own = b ∙ ap (drop half) own

  in_two : insert (set cs i front) (i + 1) back ≡ halved cs i
  in_two =
      ap (λ (d : Entries T). insert (set cs i d) (i + 1) back) (f ∙ ap (take half) own)
      ∙ ap (λ (d : Entries T). insert (set cs i (take half (get_or cs i []))) (i + 1) d) back_own
      ∙ halved_is cs i h

pub returns-clause-halved : goal.returns-clause-halved
returns-clause-halved g c =
    let cs = c.args.chunks.now.items in
    let i = c.args.at in
    let h : i < length cs = omega (arith, c.requires.within, c.args.chunks.now.ok.0) in
    (c.insert.ensures.items ∙ ap (λ r. if is_ok r then insert (set cs i c.split_into.new.self) (i + 1) c.split_into.new.back else set cs i c.split_into.new.self) c.unwrap.ensures)
    ∙ in_two cs i c.index_mut.result.now c.split_into.new.self c.split_into.new.back h c.index_mut.ensures.value c.split_into.ensures.front c.split_into.ensures.back

pub returns-clause-len : goal.returns-clause-len
returns-clause-len g c = λ d.
    let cs = c.args.chunks.now.items in
    let i = c.args.at in
    let h : i < length cs = omega (arith, c.requires.within, c.args.chunks.now.ok.0) in
    let all = (c.insert.ensures.items ∙ ap (λ r. if is_ok r then insert (set cs i c.split_into.new.self) (i + 1) c.split_into.new.back else set cs i c.split_into.new.self) c.unwrap.ensures)
    ∙ in_two cs i c.index_mut.result.now c.split_into.new.self c.split_into.new.back h c.index_mut.ensures.value c.split_into.ensures.front c.split_into.ensures.back in
    let back = back_own cs i c.index_mut.result.now c.split_into.new.self c.split_into.new.back h c.index_mut.ensures.value c.split_into.ensures.front c.split_into.ensures.back in
    omega (arith, c.split_into.ensures.len, ap length (ap (λ (l : List (Entries g.row.T.Denot)). get_or l (i + 1) d) all ∙ back_is cs i h d ∙ sym back))
