-- How many bytes an inbox takes in.
use Rattle.std.proofs.Common.{◌≡◌, ℕ, zero, suc, ◌+◌, ◌-◌, ◌<◌, ◌≤◌, true, false, cond, List, [], ◌∷◌, ◌++◌, length, take, drop, refl, sym, ap, ◌∙◌, inl, inr, arith, length-append, length-drop, length-take-le}
use Rattle.std.proofs.lemmas.Bool.{cases_lt, cases_order}
use Rattle.std.proofs.Math.Seq.{take-add}
use Rattle.std.proofs.lemmas.List.{append-nil, append_assoc}
use Rattle.world_model.specs.Fronts.{front, is_part, intake}
use Rattle.msg_reassembly.specs.Inboxes.{room}
use Rattle.msg_reassembly.specs.Cuts.{IsMost, IntakeIsMost, one_step, IntakeIsTwoSteps}
use Rattle.msg_reassembly.proofs.FrontLemmas.{short, long, begun, whole, front_case, front-short, front-append-long, front-append-begun, front-append-whole, room-full, room-short, room-begun}

-- THE MOST
most_of_none : (inbox : List ℕ) → IsMost inbox [] 0
most_of_none inbox = record { there = omega arith; before = λ m h. absurd (omega arith); ends = λ h. absurd (omega arith) }

before_more : (inbox : List ℕ) (b : ℕ) (bs : List ℕ) (n : ℕ) → is_part (front inbox) ≡ true → IsMost (inbox ++ b ∷ []) bs n → (m : ℕ) → m < 1 + n → is_part (front (inbox ++ take m (b ∷ bs))) ≡ true
before_more inbox b bs n part h zero less = ap (λ x. is_part (front x)) (append-nil inbox) ∙ part
before_more inbox b bs n part h (suc m) less =
    ap (λ x. is_part (front x)) (sym (append_assoc inbox (b ∷ []) (take m bs))) ∙ h.before m (omega arith)

most_of_more : (inbox : List ℕ) (b : ℕ) (bs : List ℕ) (n : ℕ) → is_part (front inbox) ≡ true → IsMost (inbox ++ b ∷ []) bs n → IsMost inbox (b ∷ bs) (1 + n)
most_of_more inbox b bs n part h =
    let next : 1 + n ≡ suc n = omega arith in
    record {
      there = omega (arith, h.there);
      before = before_more inbox b bs n part h;
      ends = λ less. ap (λ m. is_part (front (inbox ++ take m (b ∷ bs)))) next
          ∙ ap (λ x. is_part (front x)) (sym (append_assoc inbox (b ∷ []) (take n bs))) ∙ h.ends (omega arith);
    }

most_of_full : (inbox bytes : List ℕ) → is_part (front inbox) ≡ false → IsMost inbox bytes 0
most_of_full inbox bytes full = record {
  there = omega arith;
  before = λ m h. absurd (omega arith);
  ends = λ less. ap (λ x. is_part (front x)) (append-nil inbox) ∙ full;
}

pub intake_is_most : IntakeIsMost
intake_is_most inbox [] = most_of_none inbox
intake_is_most inbox (b ∷ bs) =
    let rest = intake_is_most (inbox ++ b ∷ []) bs in
    elim (is_part (front inbox)) as (λ v. is_part (front inbox) ≡ v → IsMost inbox (b ∷ bs) (cond v (1 + intake (inbox ++ b ∷ []) bs) 0)) [
      | true ↦ λ part. most_of_more inbox b bs (intake (inbox ++ b ∷ []) bs) part rest
      | false ↦ λ full. most_of_full inbox (b ∷ bs) full
    ] refl

one_most : (inbox bytes : List ℕ) (m n : ℕ) → IsMost inbox bytes m → IsMost inbox bytes n → m ≡ n
one_most inbox bytes m n h k =
    elim (cases_order m n) [
      | inl same ↦ same
      | inr apart ↦ elim apart [
        | inl less ↦ cc (k.before m less, h.ends (omega (arith, k.there)))
        | inr more ↦ cc (h.before n more, k.ends (omega (arith, h.there)))
      ]
    ]

-- TWO STEPS. Before the room is used up, the front is part of a message
part_before : (xs ys : List ℕ) → length ys < room xs → is_part (front (xs ++ ys)) ≡ true
part_before xs ys less =
    let more = length-append xs ys in
    elim (front_case xs) [
      | short h is ↦ ap is_part (front-short (xs ++ ys) (omega (arith, room-short xs h)))
      | long h k is ↦ absurd (omega (arith, room-full xs (ap is_part is)))
      | begun h k l is ↦ ap is_part (front-append-begun xs ys h k (omega (arith, room-begun xs h is)))
      | whole h k l is ↦ absurd (omega (arith, room-full xs (ap is_part is)))
    ]

-- behind a header, the room's end is the message's
full_behind_header : (xs ys : List ℕ) → 16 ≤ length xs → length ys ≡ room xs → is_part (front (xs ++ ys)) ≡ false
full_behind_header xs ys header size =
    let more = length-append xs ys in
    elim (front_case xs) [
      | short h is ↦ absurd (omega arith)
      | long h k is ↦ ap is_part (front-append-long xs ys h k)
      | begun h k l is ↦ ap is_part (front-append-whole xs ys h k (omega (arith, room-begun xs h is)))
      | whole h k l is ↦ ap is_part (front-append-whole xs ys h k (omega arith))
    ]

-- the first step ends behind a header
header_there : (xs ys : List ℕ) → length ys ≡ room xs → 16 ≤ length (xs ++ ys)
header_there xs ys size =
    let more = length-append xs ys in
    elim (cases_lt (length xs) 16) [
      | inl h ↦ omega (arith, room-short xs h)
      | inr h ↦ omega arith
    ]

module _ (inbox bytes : List ℕ) where
  cut_in_two : (m n : ℕ) → inbox ++ take (m + n) bytes ≡ (inbox ++ take m bytes) ++ take n (drop m bytes)
  cut_in_two m n = ap (λ xs. inbox ++ xs) (take-add m n bytes) ∙ sym (append_assoc inbox (take m bytes) (take n (drop m bytes)))

  two_steps : IsMost inbox bytes (one_step inbox bytes + one_step (inbox ++ take (one_step inbox bytes) bytes) (drop (one_step inbox bytes) bytes))
  two_steps =
      let first = one_step inbox bytes in
      let mid = inbox ++ take first bytes in
      let second = one_step mid (drop first bytes) in
      let behind = length-drop first bytes in
      record {
        there = omega arith;
        before = λ m less. elim (cases_lt m first) [
          | inl early ↦
              let size = length-take-le m bytes (omega arith) in
              part_before inbox (take m bytes) (omega arith)
          | inr late ↦
              let split : first + (m - first) ≡ m = omega arith in
              let size = length-take-le (m - first) (drop first bytes) (omega arith) in
              ap (λ k. is_part (front (inbox ++ take k bytes))) (sym split) ∙ ap (λ xs. is_part (front xs)) (cut_in_two first (m - first))
              ∙ part_before mid (take (m - first) (drop first bytes)) (omega arith)
        ];
        ends = λ less.
            let size = length-take-le first bytes (omega arith) in
            let size_behind = length-take-le second (drop first bytes) (omega arith) in
            ap (λ xs. is_part (front xs)) (cut_in_two first second)
            ∙ full_behind_header mid (take second (drop first bytes)) (header_there inbox (take first bytes) (omega arith)) (omega arith);
      }

pub intake_is_two_steps : IntakeIsTwoSteps
intake_is_two_steps inbox bytes =
    one_most inbox bytes _ _ (intake_is_most inbox bytes) (two_steps inbox bytes)
