-- A chunk that is split in two: the entries stay, and half a chunk is free in each.
use Rattle.std.proofs.Common.{length-set, ◌≡◌, ℕ, suc, ◌+◌, ◌*◌, ◌-◌, ◌/◌, ◌<◌, ◌≤◌, min, max, Bool, true, false, nat_le, List, [], ◌∷◌, ◌++◌, length, take, drop, get_or, set, refl, sym, ap, subst, ◌∙◌, arith, append_assoc, ltb, inl, inr, ◌⊎◌}
use borrow.Author.Tests.{ltb-true, ltb-false}
use Rattle.std.specs.FinMap.{put}
use Rattle.std.specs.List.{All, HoldsAt, insert}
use Rattle.std.proofs.lemmas.List.{take-append-drop, take_at, drop_at, drop-drop, length-take-le, length-drop, length-take, length-append, take_more_set, drop-set-lt, get_or_at, get_or-append-add}
use Rattle.std.proofs.lemmas.Bool.Decides.{nat_tests}
use Rattle.std.proofs.lemmas.List.Elements.{All-append, All-cons, All-take, All-drop}
use Rattle.std.proofs.lemmas.List.Sums.{sum_by-append, sum_by-cons, sum_by-set, sum_by-le, sum_by-take-drop, sum_by-drop_more}
use Rattle.xs_model.specs.Paths.{Path, path_cmp}
use Rattle.path_map.specs.Chunks.{half, full, joined, halved, debt, owed, room, IsRangeFor}
use Rattle.path_map.proofs.Rising.{before, behind, length-put-le}
use Rattle.path_map.proofs.Chunked.{joined-append, joined_at}
use Rattle.path_map.specs.Map.{Entries, most_kept}

two : (i j : ℕ) → i ≤ j → j < i + 2 → (j ≡ i) ⊎ (j ≡ i + 1)
two i j low high =
    elim (ltb i j) as (λ b. ltb i j ≡ b → (j ≡ i) ⊎ (j ≡ i + 1)) [
      | true ↦ λ e. inr (omega (arith, ltb-true i j e))
      | false ↦ λ e. inl (omega (arith, ltb-false i j e))
    ] refl

pub spare_left : (s t d e f : ℕ) → s ≤ t + 1 → half * s + e ≤ half * t + d → f ≤ e + 1 → max s (half * s - d) ≤ max t (half * t - f) + 1
spare_left s t d e f p q r = omega arith

pub from_full : (b : Bool) (n : ℕ) → b ≡ nat_le full n → b ≡ true → full ≤ n
from_full b n p q = grind (arith, nat_tests)

module _ {T : Type 0} where
  module _ (cs : List (Entries T)) (i : ℕ) (h : i < length cs) where
    pub joined_halved : joined (halved cs i) ≡ joined cs
    joined_halved =
        joined-append (take i cs) (take half (get_or cs i []) ∷ drop half (get_or cs i []) ∷ drop (i + 1) cs)
        ∙ ap (λ l. joined (take i cs) ++ l) (sym (append_assoc (take half (get_or cs i [])) (drop half (get_or cs i [])) (joined (drop (i + 1) cs))) ∙ ap (λ l. l ++ joined (drop (i + 1) cs)) (take-append-drop half (get_or cs i [])))
        ∙ sym (joined_at cs i h)

    front_len : length (take i cs) ≡ i
    front_len = length-take-le i cs (omega arith)

    -- the front half stands at the place of the chunk, and the back half behind it
    pub halved_is : insert (set cs i (take half (get_or cs i []))) (i + 1) (drop half (get_or cs i [])) ≡ halved cs i
    halved_is =
        let a = take half (get_or cs i []) in
        let b = drop half (get_or cs i []) in
        ap (λ l. l ++ b ∷ drop (i + 1) (set cs i a)) (take_more_set cs i a h)
        ∙ ap (λ l. (take i cs ++ a ∷ []) ++ b ∷ l) (drop-set-lt (i + 1) cs i a (omega arith))
        ∙ append_assoc (take i cs) (a ∷ []) (b ∷ drop (i + 1) cs)

    pub length_halved : length (halved cs i) ≡ length cs + 1
    length_halved =
        length-append (take i cs) (take half (get_or cs i []) ∷ drop half (get_or cs i []) ∷ drop (i + 1) cs) ∙ omega (arith, front_len, length-drop (i + 1) cs)

    behind_halves : drop (i + 2) (halved cs i) ≡ drop (i + 1) cs
    behind_halves =
        let ab = take half (get_or cs i []) ∷ drop half (get_or cs i []) ∷ drop (i + 1) cs in
        sym (drop-drop 2 i (halved cs i)) ∙ ap (drop 2) (drop_at (take i cs) ab i front_len)

    -- neither of the two is full
    pub front_is : (d : Entries T) → get_or (halved cs i) i d ≡ take half (get_or cs i [])
    front_is d = get_or_at (take i cs) (take half (get_or cs i [])) (drop half (get_or cs i []) ∷ drop (i + 1) cs) d i front_len

    pub back_is : (d : Entries T) → get_or (halved cs i) (i + 1) d ≡ drop half (get_or cs i [])
    back_is d =
        subst (λ n. get_or (halved cs i) (n + 1) d ≡ drop half (get_or cs i [])) front_len (get_or-append-add (take i cs) (take half (get_or cs i []) ∷ drop half (get_or cs i []) ∷ drop (i + 1) cs) 1 d)

    pub halves_space : HoldsAt (λ c. length c ≤ half) (halved cs i) (i + 1) → (j : ℕ) → i ≤ j → j < i + 2 → HoldsAt (λ c. length c < full) (halved cs i) j
    halves_space back j low high d =
        elim (two i j low high) [
          | inl e ↦ subst (λ k. length (get_or (halved cs i) k d) < full) (sym e) (omega (arith, ap length (front_is d), length-take half (get_or cs i [])))
          | inr e ↦ subst (λ k. length (get_or (halved cs i) k d) < full) (sym e) (omega (arith, back d))
        ]

    -- the path belongs to one of the two
    pub halves_range : (p : Path) → IsRangeFor p cs i (i + 1) → IsRangeFor p (halved cs i) i (i + 2)
    halves_range p r = record {
      some = omega arith;
      within = omega (arith, length_halved);
      before = ap (λ (l : List (Entries T)). before path_cmp p (joined l)) (take_at (take i cs) (take half (get_or cs i []) ∷ drop half (get_or cs i []) ∷ drop (i + 1) cs) i front_len) ∙ r.before;
      behind = ap (λ (l : List (Entries T)). behind path_cmp p (joined l)) behind_halves ∙ r.behind;
    }

    pub filled_halved : half < length (get_or cs i []) → All (λ c. 0 < length c) cs → All (λ c. 0 < length c) (halved cs i)
    filled_halved n filled =
        let a = take half (get_or cs i []) in
        let b = drop half (get_or cs i []) in
        let P = λ (c : Entries T). 0 < length c in
        All-append P (take i cs) (a ∷ b ∷ drop (i + 1) cs) (All-take P i cs filled)
        (All-cons P a (b ∷ drop (i + 1) cs) (omega (arith, length-take half (get_or cs i [])))
        (All-cons P b (drop (i + 1) cs) (omega (arith, length-drop half (get_or cs i []))) (All-drop P (i + 1) cs filled)))

    -- THE DEBT
    pub debt-halved : full ≤ length (get_or cs i []) → HoldsAt (λ c. length c ≤ half) (halved cs i) (i + 1) → debt (halved cs i) + half ≤ debt cs
    debt-halved n short =
        let f = λ (c : Entries T). min half (length c - half) in
        let a = take half (get_or cs i []) in
        let b = drop half (get_or cs i []) in
        let all = sum_by-append f (take i cs) (a ∷ b ∷ drop (i + 1) cs) in
        let first = sum_by-cons f a (b ∷ drop (i + 1) cs) in
        let second = sum_by-cons f b (drop (i + 1) cs) in
        let whole = sum_by-take-drop f cs i in
        let here = sum_by-drop_more f cs i [] h in
        let len = length-take half (get_or cs i []) in
        omega (arith, all, first, second, whole, here, len, short [], ap length (back_is []), n)

    pub debt-put : (p : Path) (x : T) (c : Entries T) → c ≡ get_or cs i [] → debt (set cs i (put path_cmp p x c)) ≤ debt cs + 1
    debt-put p x c is =
        let f = λ (c : Entries T). min half (length c - half) in
        let whole = sum_by-set f cs i (put path_cmp p x c) [] h in
        let len = length-put-le path_cmp p x c in
        omega (arith, whole, len, ap length is)

  pub debt-le : (cs : List (Entries T)) → debt cs ≤ half * length cs
  debt-le cs = omega (arith, sum_by-le (λ (c : Entries T). min half (length c - half)) half cs (λ k d h. omega arith))

  owed-le : (cs : List (Entries T)) → owed cs ≤ half * max 1 (length cs)
  owed-le [] = omega arith
  owed-le (c ∷ cs) = let most = debt-le (c ∷ cs) in omega (arith, most)

  -- chunks to spare for so many entries: one each, or half a chunk of entries for each beyond the chunks that are there
  pub enough : (cs : List (Entries T)) (n w s : ℕ) → w ≡ min n (max 1 (length cs) + n / 32 + 1) → w ≤ s → n ≤ room s cs
  enough cs n w s e h = omega (arith, owed-le cs, e)

  -- there are no more chunks than entries
  pub fewer_chunks : (cs : List (Entries T)) → All (λ c. 0 < length c) cs → length cs ≤ length (joined cs)
  fewer_chunks [] filled = omega arith
  fewer_chunks (c ∷ cs) filled =
      let one : 0 < length c = filled 0 [] (omega arith) in
      let rest = fewer_chunks cs (λ i d h. filled (suc i) d (omega arith)) in
      omega (arith, one, rest, length-append c (joined cs))

  pub most : (cs : List (Entries T)) (es : Entries T) (n w : ℕ) → All (λ c. 0 < length c) cs → joined cs ≡ es → w ≡ min n (max 1 (length cs) + n / 32 + 1) → w ≤ most_kept es n
  most cs es n w filled same e = let fewer = fewer_chunks cs filled in omega (arith, fewer, ap length same, e)

  -- an edit that keeps the length of a chunk keeps the room
  owed-some : (cs : List (Entries T)) → 0 < length cs → owed cs ≡ debt cs
  owed-some [] h = absurd (omega arith)
  owed-some (c ∷ cs) h = refl

  pub same_room : (s : ℕ) (cs : List (Entries T)) (i : ℕ) (d : Entries T) → i < length cs → length d ≡ length (get_or cs i []) → room s (set cs i d) ≡ room s cs
  same_room s cs i d h same =
      let f = λ (c : Entries T). min half (length c - half) in
      let whole = sum_by-set f cs i d [] h in
      let before = owed-some cs (omega arith) in
      let after = owed-some (set cs i d) (omega (arith, length-set cs i d)) in
      omega (arith, whole, before, after, same)

  pub begun_room : (s t : ℕ) (cs : List (Entries T)) (e : Path × T) → cs ≡ (e ∷ []) ∷ [] → s ≡ t + 1 → room {T = T} s [] ≤ room t cs + 1
  begun_room s t cs e one h = let debts = ap owed one in omega (arith, debts, h)

  pub left_room : (s t : ℕ) (cs ds : List (Entries T)) → 0 < length cs → 0 < length ds → debt ds ≤ debt cs → s ≡ t → room s cs ≤ room t ds
  left_room s t cs ds h k less same = omega (arith, owed-some cs h, owed-some ds k, less, same)

  pub put_room : (s t : ℕ) (cs ds : List (Entries T)) (e f : ℕ) → 0 < length cs → 0 < length ds → s ≤ t + 1 → half * s + e ≤ half * t + debt cs → debt ds ≤ e + 1 → room s cs ≤ room t ds + 1
  put_room s t cs ds e f h k p q r = omega (arith, owed-some cs h, owed-some ds k, p, q, r)
