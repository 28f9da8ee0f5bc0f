-- What the two steps of an intake take.
use Rattle.std.proofs.Common.{◌≡◌, ℕ, zero, suc, ◌+◌, ◌-◌, ◌%◌, ◌<◌, ◌≤◌, Bool, true, false, cond, nat_lt, List, ◌++◌, length, take, drop, min, Ok, Err, inl, inr, refl, sym, ap, ap₂, ◌∙◌, arith, append_assoc, length-append, length-take, length-take-le, length-drop, replicate}
use Rattle.std.proofs.lemmas.Bool.{cases_lt, cond-true, cond-false, lt-ltb, le-ltb, ltb-false}
use Rattle.std.proofs.Math.Seq.{take-add}
use Rattle.std.proofs.lemmas.List.{length-replicate, take_at, take-take, drop-take}
use Rattle.ring_index.specs.declared.index.BadIndex.{BadIndex}
use Rattle.ring_index.specs.Answers.{unless_bad}
use Rattle.world_model.specs.Rings.{Ring, used, is_bad, filled, held, cells_from}
use Rattle.xs_model.specs.Messages.{word_at}
use Rattle.world_model.specs.Fronts.{Whole, TooLong, Part, front, front_with, is_part, intake}
use Rattle.msg_reassembly.specs.Inboxes.{room}
use Rattle.msg_reassembly.specs.Cuts.{IsMost, one_step}
use Rattle.msg_reassembly.proofs.IntakeLemmas.{intake_is_most, intake_is_two_steps}

-- AN ANSWER, by whether the indices are bad
pub unless_good : (ring : Ring) (n : ℕ) → is_bad ring ≡ false → unless_bad ring n ≡ Ok n
unless_good ring n good =
    cond-false (is_bad ring) (Err (record { prod = ring.prod; cons = ring.cons })) (Ok n) good

ok_where_good : (bad : Bool) (e : BadIndex) (n m : ℕ) → Ok n ≡ cond bad (Err e) (Ok m) → (bad ≡ false) × (n ≡ m)
ok_where_good true e n m h = cc h
ok_where_good false e n m h = (refl, cc h)

pub told_of : (ring : Ring) (n m : ℕ) → Ok n ≡ unless_bad ring m → (is_bad ring ≡ false) × (n ≡ m)
told_of ring n m h = ok_where_good (is_bad ring) (record { prod = ring.prod; cons = ring.cons }) n m h

abbrev zeros : List ℕ
zeros = replicate 1024 0

pub no_error : (ring : Ring) (e : BadIndex) (n : ℕ) → is_bad ring ≡ false → Err e ≡ unless_bad ring n → ⊥
no_error ring e n good h = let known = h ∙ unless_good ring n good in cc known

-- ONE STEP takes as many bytes as the inbox has room for, as it may, and as there are
module _ (ring : Ring) (most n : ℕ) (into : List ℕ) (told : Ok n ≡ unless_bad ring (min (length (take most zeros)) (used ring))) (read : into ≡ take n (held ring) ++ drop n (take most zeros)) (size : length into ≡ length (take most zeros)) where
  -- bytes that were read are there
  there : n ≤ length (held ring)
  there =
      let parts = told_of ring n (min (length (take most zeros)) (used ring)) told in
      omega (arith, parts.1, ap length read ∙ length-append (take n (held ring)) (drop n (take most zeros)), length-take n (held ring), length-drop n (take most zeros), size)

  pub one_step_is : (inbox : List ℕ) (max : ℕ) → most ≡ min (min (room inbox) max) 1024 → Ok n ≡ unless_bad ring (one_step inbox (take max (held ring)))
  one_step_is inbox max small =
      let parts = told_of ring n (min (length (take most zeros)) (used ring)) told in
      let whole = length-replicate {A = ℕ} 1024 0 in
      let few = ltb-false 1024 (used ring) parts.0 in
      let all : length (held ring) ≤ used ring = omega (arith, length-take (filled ring) (cells_from (ring.cons % 1024) ring.cells), cond-false (is_bad ring) 0 (used ring) parts.0) in
      let same : n ≡ one_step inbox (take max (held ring)) = omega (arith, length-take max (held ring), length-take most zeros, parts.1, there) in
      ap Ok same ∙ sym (unless_good ring (one_step inbox (take max (held ring))) parts.0)

  -- and these are the first bytes of what was read, whatever stands behind
  pub fed : (behind : List ℕ) → take n (into ++ behind) ≡ take n (held ring)
  fed behind =
      let size = length-take-le n (held ring) there in
      ap (λ xs. take n (xs ++ behind)) read
      ∙ ap (take n) (append_assoc (take n (held ring)) (drop n (take most zeros)) behind)
      ∙ take_at (take n (held ring)) (drop n (take most zeros) ++ behind) n size

-- TWO STEPS take what an intake takes
module _ (old new : Ring) (inbox mid : List ℕ) (max first second : ℕ) (first_told : Ok first ≡ unless_bad old (one_step inbox (take max (held old)))) (fed_first : mid ≡ inbox ++ take first (held old)) (content : held new ≡ drop first (held old)) (second_told : Ok second ≡ unless_bad new (one_step mid (take (max - first) (held new)))) where
  within : first ≤ length (take max (held old))
  within = omega (arith, (told_of old first (one_step inbox (take max (held old))) first_told).1)

  -- the bytes that the first step leaves are those behind it
  left : drop first (take max (held old)) ≡ take (max - first) (held new)
  left =
      let split : first + (max - first) ≡ max = omega (arith, within, length-take max (held old)) in
      ap (λ m. drop first (take m (held old))) (sym split) ∙ drop-take first (max - first) (held old) ∙ ap (take (max - first)) (sym content)

  fed_mid : inbox ++ take first (take max (held old)) ≡ mid
  fed_mid =
      ap (λ xs. inbox ++ xs) (take-take first max (held old) (omega (arith, within, length-take max (held old)))) ∙ sym fed_first

  pub both_told : Ok (first + second) ≡ unless_bad old (intake inbox (take max (held old)))
  both_told =
      let one = told_of old first (one_step inbox (take max (held old))) first_told in
      let two = told_of new second (one_step mid (take (max - first) (held new))) second_told in
      let law = intake_is_two_steps inbox (take max (held old)) in
      let same : first + second ≡ intake inbox (take max (held old)) =
      ap₂ (λ (m n : ℕ). m + n) refl (two.1 ∙ ap₂ one_step (sym fed_mid) (sym left))
      ∙ ap (λ (m : ℕ). m + one_step (inbox ++ take m (take max (held old))) (drop m (take max (held old)))) one.1 ∙ sym law in
      ap Ok same ∙ sym (unless_good old (intake inbox (take max (held old))) one.0)

  -- and its bytes are theirs
  pub both_fed : (after : List ℕ) → after ≡ mid ++ take second (held new) → after ≡ inbox ++ take (first + second) (held old)
  both_fed after h =
      h ∙ ap₂ ◌++◌ fed_first (ap (take second) content) ∙ append_assoc inbox (take first (held old)) (take second (drop first (held old)))
      ∙ ap (λ xs. inbox ++ xs) (sym (take-add first second (held old)))

-- HOW LONG an inbox gets: one that takes bytes is less than a message, and no more than a message then
part_behind_header : (len : ℕ) (bytes : List ℕ) → is_part (front_with len bytes) ≡ true → length bytes < 4112
part_behind_header len bytes part =
    elim (cases_lt 4096 len) [
      | inl h ↦ cc (ap is_part (cond-true (nat_lt 4096 len) (TooLong len) (cond (nat_lt (length bytes) (16 + len)) Part (Whole (16 + len))) (lt-ltb 4096 len h)), part)
      | inr h ↦ elim (cases_lt (length bytes) (16 + len)) [
        | inl k ↦ omega arith
        | inr k ↦ cc (
          ap is_part (cond-false (nat_lt 4096 len) (TooLong len) (cond (nat_lt (length bytes) (16 + len)) Part (Whole (16 + len))) (le-ltb 4096 len h)
              ∙ cond-false (nat_lt (length bytes) (16 + len)) Part (Whole (16 + len)) (le-ltb (length bytes) (16 + len) k)),
          part,
        )
      ]
    ]

part_is_short : (bytes : List ℕ) → is_part (front bytes) ≡ true → length bytes < 4112
part_is_short bytes part =
    elim (cases_lt (length bytes) 16) [
      | inl h ↦ omega arith
      | inr h ↦ part_behind_header (word_at 12 bytes) bytes
          (ap is_part (sym (cond-false (nat_lt (length bytes) 16) Part (front_with (word_at 12 bytes) bytes) (le-ltb (length bytes) 16 h))) ∙ part)
    ]

most_fits : (inbox bytes : List ℕ) (n limit : ℕ) → IsMost inbox bytes n → 4112 ≤ limit → length inbox ≤ limit → length inbox + n ≤ limit
most_fits inbox bytes zero limit most large fits = omega arith
most_fits inbox bytes (suc m) limit most large fits =
    let part = part_is_short (inbox ++ take m bytes) (most.before m (omega arith)) in
    omega (arith, part, length-append inbox (take m bytes), length-take-le m bytes (omega (arith, most.there)))

pub stays_short : (ring : Ring) (inbox after : List ℕ) (max n limit : ℕ) → Ok n ≡ unless_bad ring (intake inbox (take max (held ring))) → after ≡ inbox ++ take n (held ring) → 4112 ≤ limit → length inbox ≤ limit → length after ≤ limit
stays_short ring inbox after max n limit told fed large fits =
    let is = (told_of ring n (intake inbox (take max (held ring))) told).1 in
    let most = most_fits inbox (take max (held ring)) (intake inbox (take max (held ring))) limit (intake_is_most inbox (take max (held ring))) large fits in
    omega (arith, ap length fed, length-append inbox (take n (held ring)), length-take n (held ring), is, most)
