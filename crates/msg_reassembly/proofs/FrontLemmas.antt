-- What stands in front of bytes, by cases, and what more bytes behind them change.
use Rattle.std.proofs.Common.{◌≡◌, ℕ, ◌+◌, ◌-◌, ◌<◌, ◌≤◌, true, false, cond, nat_lt, List, ◌++◌, length, take, drop, sym, ap, ◌∙◌, inl, inr, arith, length-append, length-drop, length-take}
use Rattle.std.proofs.lemmas.Bool.{cases_lt, lt-ltb, le-ltb, cond-true, cond-false}
use Rattle.std.proofs.lemmas.List.{drop-append-le, take-append-drop}
use Rattle.byteorder.specs.Endian.{little_number}
use Rattle.byteorder.specs.Numbers.{little_from-append}
use Rattle.xs_model.specs.Messages.{word_at}
use Rattle.world_model.specs.Fronts.{Front, Whole, TooLong, Part, front, front_with, is_part}
use Rattle.msg_reassembly.specs.Inboxes.{missing, room}

-- THE FOUR CASES
pub data FrontCase (bytes : List ℕ) : Type 0 where
  short : length bytes < 16 → front bytes ≡ Part → FrontCase bytes
  long : 16 ≤ length bytes → 4096 < word_at 12 bytes → front bytes ≡ TooLong (word_at 12 bytes) → FrontCase bytes
  begun : 16 ≤ length bytes → word_at 12 bytes ≤ 4096 → length bytes < 16 + word_at 12 bytes → front bytes ≡ Part → FrontCase bytes
  whole : 16 ≤ length bytes → word_at 12 bytes ≤ 4096 → 16 + word_at 12 bytes ≤ length bytes → front bytes ≡ Whole (16 + word_at 12 bytes) → FrontCase bytes

pub front-short : (bytes : List ℕ) → length bytes < 16 → front bytes ≡ Part
front-short bytes h = cond-true (nat_lt (length bytes) 16) Part (front_with (word_at 12 bytes) bytes) (lt-ltb (length bytes) 16 h)

front-headed : (bytes : List ℕ) → 16 ≤ length bytes → front bytes ≡ front_with (word_at 12 bytes) bytes
front-headed bytes h = cond-false (nat_lt (length bytes) 16) Part (front_with (word_at 12 bytes) bytes) (le-ltb (length bytes) 16 h)

front_with-long : (len : ℕ) (bytes : List ℕ) → 4096 < len → front_with len bytes ≡ TooLong len
front_with-long len bytes h = cond-true (nat_lt 4096 len) (TooLong len) (cond (nat_lt (length bytes) (16 + len)) Part (Whole (16 + len))) (lt-ltb 4096 len h)

front_with-begun : (len : ℕ) (bytes : List ℕ) → len ≤ 4096 → length bytes < 16 + len → front_with len bytes ≡ Part
front_with-begun len bytes h k =
    cond-false (nat_lt 4096 len) (TooLong len) (cond (nat_lt (length bytes) (16 + len)) Part (Whole (16 + len))) (le-ltb 4096 len h)
    ∙ cond-true (nat_lt (length bytes) (16 + len)) Part (Whole (16 + len)) (lt-ltb (length bytes) (16 + len) k)

front_with-whole : (len : ℕ) (bytes : List ℕ) → len ≤ 4096 → 16 + len ≤ length bytes → front_with len bytes ≡ Whole (16 + len)
front_with-whole len bytes h k =
    cond-false (nat_lt 4096 len) (TooLong len) (cond (nat_lt (length bytes) (16 + len)) Part (Whole (16 + len))) (le-ltb 4096 len h)
    ∙ cond-false (nat_lt (length bytes) (16 + len)) Part (Whole (16 + len)) (le-ltb (length bytes) (16 + len) k)

pub front_case : (bytes : List ℕ) → FrontCase bytes
front_case bytes =
    let len = word_at 12 bytes in
    elim (cases_lt (length bytes) 16) [
      | inl h ↦ short h (front-short bytes h)
      | inr h ↦ elim (cases_lt 4096 len) [
        | inl k ↦ long h k (front-headed bytes h ∙ front_with-long len bytes k)
        | inr k ↦ elim (cases_lt (length bytes) (16 + len)) [
          | inl l ↦ begun h k l (front-headed bytes h ∙ front_with-begun len bytes k l)
          | inr l ↦ whole h k l (front-headed bytes h ∙ front_with-whole len bytes k l)
        ]
      ]
    ]

-- MORE BYTES behind a header leave its length
pub word_at-append : (xs ys : List ℕ) → 16 ≤ length xs → word_at 12 (xs ++ ys) ≡ word_at 12 xs
word_at-append xs ys h =
    ap (little_number 4) (drop-append-le 12 xs ys (omega arith)) ∙ little_from-append 4 (drop 12 xs) ys (omega (arith, length-drop 12 xs))

pub front-append-long : (xs ys : List ℕ) → 16 ≤ length xs → 4096 < word_at 12 xs → front (xs ++ ys) ≡ TooLong (word_at 12 xs)
front-append-long xs ys h k =
    let more = length-append xs ys in
    let word = word_at-append xs ys h in
    front-headed (xs ++ ys) (omega arith) ∙ ap (λ len. front_with len (xs ++ ys)) word ∙ front_with-long (word_at 12 xs) (xs ++ ys) k

pub front-append-begun : (xs ys : List ℕ) → 16 ≤ length xs → word_at 12 xs ≤ 4096 → length (xs ++ ys) < 16 + word_at 12 xs → front (xs ++ ys) ≡ Part
front-append-begun xs ys h k l =
    let more = length-append xs ys in
    front-headed (xs ++ ys) (omega arith) ∙ ap (λ len. front_with len (xs ++ ys)) (word_at-append xs ys h) ∙ front_with-begun (word_at 12 xs) (xs ++ ys) k l

pub front-append-whole : (xs ys : List ℕ) → 16 ≤ length xs → word_at 12 xs ≤ 4096 → 16 + word_at 12 xs ≤ length (xs ++ ys) → front (xs ++ ys) ≡ Whole (16 + word_at 12 xs)
front-append-whole xs ys h k l =
    let more = length-append xs ys in
    front-headed (xs ++ ys) (omega arith) ∙ ap (λ len. front_with len (xs ++ ys)) (word_at-append xs ys h) ∙ front_with-whole (word_at 12 xs) (xs ++ ys) k l

part_is : (f : Front) → f ≡ Part → is_part f ≡ true
part_is f h = ap is_part h

-- a front that is not part of a message stays, whatever follows
pub front-append : (xs ys : List ℕ) → is_part (front xs) ≡ false → front (xs ++ ys) ≡ front xs
front-append xs ys full =
    let more = length-append xs ys in
    elim (front_case xs) [
      | short h is ↦ cc (ap is_part is, full)
      | long h k is ↦ front-append-long xs ys h k ∙ sym is
      | begun h k l is ↦ cc (ap is_part is, full)
      | whole h k l is ↦ front-append-whole xs ys h k (omega arith) ∙ sym is
    ]

-- A WHOLE FRONT has its own length, and stands alone
pub record IsFrontOf (bytes : List ℕ) (n : ℕ) : Type 0 where
  pub header : 16 ≤ n
  pub limit : n ≤ 4112
  pub within : n ≤ length bytes
  pub alone : front (take n bytes) ≡ Whole n

pub is_front_of : (bytes : List ℕ) (n : ℕ) → front bytes ≡ Whole n → IsFrontOf bytes n
is_front_of bytes n e =
    elim (front_case bytes) [
      | short h is ↦ cc (e, is)
      | long h k is ↦ cc (e, is)
      | begun h k l is ↦ cc (e, is)
      | whole h k l is ↦
          let same : 16 + word_at 12 bytes ≡ n = cc (e, is) in
          let size = length-take n bytes in
          let there : 16 ≤ length (take n bytes) = omega arith in
          let again : word_at 12 (take n bytes) ≡ word_at 12 bytes =
          sym (word_at-append (take n bytes) (drop n bytes) there) ∙ ap (word_at 12) (take-append-drop n bytes) in
          record {
            header = omega arith;
            limit = omega arith;
            within = omega arith;
            alone = front-headed (take n bytes) there ∙ ap (λ len. front_with len (take n bytes)) again
                ∙ front_with-whole (word_at 12 bytes) (take n bytes) k (omega arith) ∙ ap Whole same;
          }
    ]

-- ROOM
pub room-full : (bytes : List ℕ) → is_part (front bytes) ≡ false → room bytes ≡ 0
room-full bytes full = cond-false (is_part (front bytes)) (missing bytes) 0 full

pub room-short : (bytes : List ℕ) → length bytes < 16 → room bytes ≡ 16 - length bytes
room-short bytes h =
    cond-true (is_part (front bytes)) (missing bytes) 0 (part_is _ (front-short bytes h))
    ∙ cond-true (nat_lt (length bytes) 16) (16 - length bytes) (16 + word_at 12 bytes - length bytes) (lt-ltb (length bytes) 16 h)

pub room-begun : (bytes : List ℕ) → 16 ≤ length bytes → front bytes ≡ Part → room bytes ≡ 16 + word_at 12 bytes - length bytes
room-begun bytes h is =
    cond-true (is_part (front bytes)) (missing bytes) 0 (part_is _ is)
    ∙ cond-false (nat_lt (length bytes) 16) (16 - length bytes) (16 + word_at 12 bytes - length bytes) (le-ltb (length bytes) 16 h)
