-- Paths stand in the order of their texts.
use Rattle.std.proofs.Common.{◌≡◌, ℕ, suc, ◌+◌, ◌-◌, ◌<◌, min, true, false, cond, List, [], ◌∷◌, length, drop, length-drop, refl, sym, ap, ◌∙◌, arith, Ordering}
use Rattle.std.specs.declared.cmp.Ordering.TheVariants.{Less, Equal, Greater}
use Rattle.std.specs.Prelude.{nat_eq}
use Rattle.std.specs.Ordering.{nat_cmp, ordering_then, is_eq, eq_by_cmp}
use Rattle.std.specs.Cmp.Lexicographic.{pointwise, lists_ties}
use Rattle.std.proofs.lemmas.Bool.Decides.{nat_tests}
use Rattle.xs_model.specs.Paths.{Path, path_cmp, name_cmp, onto_first, split_names, absolute_path, is_absolute}
use Rattle.xs_model.specs.Laws.{text_cmp, byte_cmp}
use Rattle.xs_path.proofs.Splitting.{is_slash, slashes, length-split_names}

nat_cmp-next : (b c : ℕ) → nat_cmp (b + 1) (c + 1) ≡ nat_cmp b c
nat_cmp-next b c = grind (arith, nat_tests)

nat_cmp-zero-next : (c : ℕ) → nat_cmp 0 (c + 1) ≡ Less
nat_cmp-zero-next c = grind (arith, nat_tests)

nat_cmp-next-zero : (b : ℕ) → nat_cmp (b + 1) 0 ≡ Greater
nat_cmp-next-zero b = grind (arith, nat_tests)

then-assoc : (r s t : Ordering) → ordering_then (ordering_then r s) t ≡ ordering_then r (ordering_then s t)
then-assoc Less s t = refl
then-assoc Equal s t = refl
then-assoc Greater s t = refl

-- a name that goes on comes behind one that ends
Less-onto_first : (ns : Path) (c : ℕ) (ms : Path) → path_cmp ([] ∷ ns) (onto_first c ms) ≡ Less
Less-onto_first ns c [] = refl
Less-onto_first ns c (m ∷ ms) = refl

Greater-onto_first : (b : ℕ) (ns ms : Path) → path_cmp (onto_first b ns) ([] ∷ ms) ≡ Greater
Greater-onto_first b [] ms = refl
Greater-onto_first b (n ∷ ns) ms = refl

Less-more : (ms : Path) (k : ℕ) → length ms ≡ suc k → path_cmp ([] ∷ []) ([] ∷ ms) ≡ Less
Less-more [] k e = absurd (omega arith)
Less-more (m ∷ ms) k e = refl

Greater-more : (ms : Path) (k : ℕ) → length ms ≡ suc k → path_cmp ([] ∷ ms) ([] ∷ []) ≡ Greater
Greater-more [] k e = absurd (omega arith)
Greater-more (m ∷ ms) k e = refl

both-onto_first : (b c : ℕ) (ns ms : Path) (j k : ℕ) → length ns ≡ suc j → length ms ≡ suc k → path_cmp (onto_first b ns) (onto_first c ms) ≡ ordering_then (nat_cmp b c) (path_cmp ns ms)
both-onto_first b c [] ms j k p q = absurd (omega arith)
both-onto_first b c (n ∷ ns) [] j k p q = absurd (omega arith)
both-onto_first b c (n ∷ ns) (m ∷ ms) j k p q = then-assoc (nat_cmp b c) (name_cmp n m) (path_cmp ns ms)

-- the order of the names between the slashes is that of the texts, whatever the texts
path_cmp-split_names : (x y : List ℕ) → path_cmp (split_names x) (split_names y) ≡ text_cmp x y
path_cmp-split_names [] [] = refl
path_cmp-split_names [] (c ∷ cs) =
    elim (is_slash c) as (λ t. path_cmp ([] ∷ []) (cond t ([] ∷ split_names cs) (onto_first c (split_names cs))) ≡ Less) [
      | true ↦ Less-more (split_names cs) (slashes cs) (length-split_names cs)
      | false ↦ Less-onto_first [] c (split_names cs)
    ]
path_cmp-split_names (b ∷ bs) [] =
    elim (is_slash b) as (λ t. path_cmp (cond t ([] ∷ split_names bs) (onto_first b (split_names bs))) ([] ∷ []) ≡ Greater) [
      | true ↦ Greater-more (split_names bs) (slashes bs) (length-split_names bs)
      | false ↦ Greater-onto_first b (split_names bs) []
    ]
path_cmp-split_names (b ∷ bs) (c ∷ cs) =
    let rest = path_cmp-split_names bs cs in
    elim (is_slash b) as (λ t. path_cmp (cond t ([] ∷ split_names bs) (onto_first b (split_names bs))) (split_names (c ∷ cs)) ≡ ordering_then (nat_cmp (cond t 0 (b + 1)) (cond (is_slash c) 0 (c + 1))) (text_cmp bs cs)) [
      | true ↦ elim (is_slash c) as (λ u. path_cmp ([] ∷ split_names bs) (cond u ([] ∷ split_names cs) (onto_first c (split_names cs))) ≡ ordering_then (nat_cmp 0 (cond u 0 (c + 1))) (text_cmp bs cs)) [
        | true ↦ rest
        | false ↦ Less-onto_first (split_names bs) c (split_names cs) ∙ ap (λ r. ordering_then r (text_cmp bs cs)) (sym (nat_cmp-zero-next c))
      ]
      | false ↦ elim (is_slash c) as (λ u. path_cmp (onto_first b (split_names bs)) (cond u ([] ∷ split_names cs) (onto_first c (split_names cs))) ≡ ordering_then (nat_cmp (b + 1) (cond u 0 (c + 1))) (text_cmp bs cs)) [
        | true ↦ Greater-onto_first b (split_names bs) (split_names cs) ∙ ap (λ r. ordering_then r (text_cmp bs cs)) (sym (nat_cmp-next-zero b))
        | false ↦ both-onto_first b c (split_names bs) (split_names cs) (slashes bs) (slashes cs) (length-split_names bs) (length-split_names cs)
            ∙ ap (ordering_then (nat_cmp b c)) rest ∙ ap (λ r. ordering_then r (text_cmp bs cs)) (sym (nat_cmp-next b c))
      ]
    ]

-- a slash in front of both
text_cmp-slash : (b c : ℕ) (x y : List ℕ) → is_slash b ≡ true → is_slash c ≡ true → text_cmp x y ≡ text_cmp (b ∷ x) (c ∷ y)
text_cmp-slash b c x y p q =
    sym (ap (λ r. ordering_then r (text_cmp x y)) (ap (λ t. nat_cmp (cond t 0 (b + 1)) (cond (is_slash c) 0 (c + 1))) p ∙ ap (λ t. nat_cmp 0 (cond t 0 (c + 1))) q))

Less-names : (ms : Path) (k : ℕ) → length ms ≡ suc k → path_cmp [] ms ≡ Less
Less-names [] k e = absurd (omega arith)
Less-names (m ∷ ms) k e = refl

Greater-names : (ms : Path) (k : ℕ) → length ms ≡ suc k → path_cmp ms [] ≡ Greater
Greater-names [] k e = absurd (omega arith)
Greater-names (m ∷ ms) k e = refl

pub path_cmp-absolute_path : (a b : List ℕ) → is_absolute a ≡ true → is_absolute b ≡ true → path_cmp (absolute_path a) (absolute_path b) ≡ text_cmp a b
path_cmp-absolute_path [] b p q = cc
path_cmp-absolute_path (x ∷ a) [] p q = cc
path_cmp-absolute_path (x ∷ []) (y ∷ []) p q = text_cmp-slash x y [] [] p q
path_cmp-absolute_path (x ∷ []) (y ∷ c ∷ b) p q =
    Less-names (split_names (c ∷ b)) (slashes (c ∷ b)) (length-split_names (c ∷ b)) ∙ text_cmp-slash x y [] (c ∷ b) p q
path_cmp-absolute_path (x ∷ c ∷ a) (y ∷ []) p q =
    Greater-names (split_names (c ∷ a)) (slashes (c ∷ a)) (length-split_names (c ∷ a)) ∙ text_cmp-slash x y (c ∷ a) [] p q
path_cmp-absolute_path (x ∷ c ∷ a) (y ∷ d ∷ b) p q =
    path_cmp-split_names (c ∷ a) (d ∷ b) ∙ text_cmp-slash x y (c ∷ a) (d ∷ b) p q

-- bytes tie where they are the same
ties : (a b : ℕ) → nat_eq a b ≡ eq_by_cmp byte_cmp a b
ties a b = grind (arith, nat_tests)

pub same_texts : (a b : List ℕ) → is_absolute a ≡ true → is_absolute b ≡ true → pointwise nat_eq a b ≡ eq_by_cmp path_cmp (absolute_path a) (absolute_path b)
same_texts a b p q = lists_ties byte_cmp ties a b ∙ ap is_eq (sym (path_cmp-absolute_path a b p q))

lengths_tie : (m n : ℕ) → m ≡ n → nat_cmp m n ≡ Equal
lengths_tie m n e = grind (arith, nat_tests)

shorter_first : (m n : ℕ) → m < n → nat_cmp m n ≡ Less
shorter_first m n e = grind (arith, nat_tests)

longer_last : (m n : ℕ) → n < m → nat_cmp m n ≡ Greater
longer_last m n e = grind (arith, nat_tests)

-- where one of two texts has ended, the lengths decide
by_lengths : (u v : List ℕ) (m n k : ℕ) → length u ≡ m - k → length v ≡ n - k → k ≡ min m n → nat_cmp m n ≡ text_cmp u v
by_lengths [] [] m n k p q e = lengths_tie m n (omega arith)
by_lengths [] (y ∷ v) m n k p q e = shorter_first m n (omega arith)
by_lengths (x ∷ u) [] m n k p q e = longer_last m n (omega arith)
by_lengths (x ∷ u) (y ∷ v) m n k p q e = absurd (omega arith)

pub text_cmp-ended : (a b : List ℕ) (k : ℕ) → k ≡ min (length a) (length b) → nat_cmp (length a) (length b) ≡ text_cmp (drop k a) (drop k b)
text_cmp-ended a b k e = by_lengths (drop k a) (drop k b) (length a) (length b) k (length-drop k a) (length-drop k b) e
