-- Where messages begin and end.
use Rattle.std.proofs.Common.{◌≡◌, ℕ, zero, suc, ◌+◌, ◌-◌, ◌<◌, ◌≤◌, Bool, true, false, ◌&&◌, nat_le, List, [], ◌∷◌, ◌++◌, length, drop, refl, sym, ap, ap₂, ◌∙◌, arith, length-append, length-drop}
use Rattle.std.proofs.lemmas.List.{drop-append-le}
use Rattle.std.proofs.lemmas.Bool.Decides.{nat_tests}
use Rattle.byteorder.specs.Endian.{little_number}
use Rattle.byteorder.specs.Numbers.{little_from-append}
use Rattle.xs_model.specs.Messages.{word_at}
use Rattle.xs_model.specs.Wholes.{message_length, begins_message, whole_behind, rest_after}

pub both_true : (a b : Bool) → (a && b) ≡ true → (a ≡ true) × (b ≡ true)
both_true true b h = (refl, h)
both_true false b h = cc

le_true : (m n : ℕ) → nat_le m n ≡ true → m ≤ n
le_true m n h = grind (arith, nat_tests)

pub le_is : (m n : ℕ) → m ≤ n → nat_le m n ≡ true
le_is m n h = grind (arith, nat_tests)

-- what begins a message
pub message_there : (bytes : List ℕ) → begins_message bytes ≡ true → (16 ≤ length bytes) × (message_length bytes ≤ length bytes)
message_there bytes h =
    let header = both_true _ _ h in
    (le_true 16 (length bytes) header.0, le_true _ _ (both_true _ _ header.1).1)

-- a byte on
whole_behind-step : (n b : ℕ) (bs : List ℕ) → 0 < n → whole_behind n (b ∷ bs) ≡ whole_behind (n - 1) bs
whole_behind-step zero b bs some = absurd (omega arith)
whole_behind-step (suc n) b bs some = let e : n ≡ suc n - 1 = omega arith in ap (λ m. whole_behind m bs) e

rest_after-step : (rest n b : ℕ) (bs : List ℕ) → 0 < rest → rest_after rest (suc n) (b ∷ bs) ≡ rest_after (rest - 1) n bs
rest_after-step zero n b bs some = absurd (omega arith)
rest_after-step (suc rest) n b bs some = let e : rest ≡ suc rest - 1 = omega arith in ap (λ m. rest_after m n bs) e

-- behind a place within the bytes
pub whole_behind-within : (n : ℕ) (bytes : List ℕ) → n ≤ length bytes → whole_behind n bytes ≡ whole_behind 0 (drop n bytes)
whole_behind-within zero bytes fits = refl
whole_behind-within (suc n) [] fits = absurd (omega arith)
whole_behind-within (suc n) (b ∷ bs) fits = whole_behind-within n bs (omega arith)

pub whole_behind-past : (n : ℕ) (bytes : List ℕ) → length bytes < n → whole_behind n bytes ≡ false
whole_behind-past zero bytes past = absurd (omega arith)
whole_behind-past (suc n) [] past = refl
whole_behind-past (suc n) (b ∷ bs) past = whole_behind-past n bs (omega arith)

pub within_when_whole : (n : ℕ) (bytes : List ℕ) → whole_behind n bytes ≡ true → n ≤ length bytes
within_when_whole zero bytes h = omega arith
within_when_whole (suc n) [] h = cc
within_when_whole (suc n) (b ∷ bs) h = let rest = within_when_whole n bs h in omega arith

-- whole messages are one and whole messages behind it
pub whole_behind-first : (bytes : List ℕ) → 0 < length bytes → whole_behind 0 bytes ≡ (begins_message bytes && whole_behind (message_length bytes) bytes)
whole_behind-first [] some = absurd (omega arith)
whole_behind-first (b ∷ bs) some =
    ap (λ r. begins_message (b ∷ bs) && r) (sym (whole_behind-step (message_length (b ∷ bs)) b bs (omega arith)))

first_begins : (bytes : List ℕ) → 0 < length bytes → whole_behind 0 bytes ≡ true → (begins_message bytes ≡ true) × (whole_behind (message_length bytes) bytes ≡ true)
first_begins bytes some h = both_true _ _ (sym (whole_behind-first bytes some) ∙ h)

pub whole_behind-next : (bytes : List ℕ) → 0 < length bytes → begins_message bytes ≡ true → whole_behind 0 (drop (message_length bytes) bytes) ≡ whole_behind 0 bytes
whole_behind-next bytes some begins =
    sym (whole_behind-first bytes some ∙ ap (λ b. b && whole_behind (message_length bytes) bytes) begins ∙ whole_behind-within (message_length bytes) bytes (message_there bytes begins).1)

-- the message behind the one in front
pub next_begins : (rest : ℕ) (bytes : List ℕ) → rest < length bytes → whole_behind rest bytes ≡ true → (begins_message (drop rest bytes) ≡ true) × (whole_behind (message_length (drop rest bytes)) (drop rest bytes) ≡ true)
next_begins rest bytes more h =
    first_begins (drop rest bytes) (simp length-drop (omega arith)) (sym (whole_behind-within rest bytes (omega arith)) ∙ h)

-- WHAT FOLLOWS. Bytes behind bytes change nothing of a message in them
word_at-append : (at : ℕ) (xs ys : List ℕ) → at + 4 ≤ length xs → word_at at (xs ++ ys) ≡ word_at at xs
word_at-append at xs ys fits =
    ap (little_number 4) (drop-append-le at xs ys (omega arith)) ∙ little_from-append 4 (drop at xs) ys (omega (arith, length-drop at xs))

pub message_length-append : (xs ys : List ℕ) → 16 ≤ length xs → message_length (xs ++ ys) ≡ message_length xs
message_length-append xs ys fits = ap (λ w. 16 + w) (word_at-append 12 xs ys (omega arith))

begins_message-append : (xs ys : List ℕ) → begins_message xs ≡ true → begins_message (xs ++ ys) ≡ true
begins_message-append xs ys h =
    let there = message_there xs h in
    let more = length-append xs ys in
    let limit : word_at 12 xs ≤ 4096 = le_true (word_at 12 xs) 4096 (both_true _ _ (both_true _ _ h).1).0 in
    ap₂ ◌&&◌ (le_is 16 (length (xs ++ ys)) (omega arith)) (ap₂ ◌&&◌
    (le_is (word_at 12 (xs ++ ys)) 4096 (rw (word_at-append 12 xs ys (omega arith)) limit))
    (le_is (message_length (xs ++ ys)) (length (xs ++ ys)) (rw (message_length-append xs ys (omega arith)) (omega arith))))

pub whole_behind-append : (n : ℕ) (xs ys : List ℕ) → whole_behind n xs ≡ true → whole_behind 0 ys ≡ true → whole_behind n (xs ++ ys) ≡ true
whole_behind-append zero [] ys h more = more
whole_behind-append (suc n) [] ys h more = cc
whole_behind-append zero (x ∷ xs) ys h more =
    let parts = both_true _ _ h in
    let there = message_there (x ∷ xs) parts.0 in
    let same : message_length ((x ∷ xs) ++ ys) ≡ message_length (x ∷ xs) = message_length-append (x ∷ xs) ys (omega arith) in
    ap₂ ◌&&◌ (begins_message-append (x ∷ xs) ys parts.0) (ap (λ m. whole_behind (m - 1) (xs ++ ys)) same ∙ whole_behind-append (message_length (x ∷ xs) - 1) xs ys parts.1 more)
whole_behind-append (suc n) (x ∷ xs) ys h more = whole_behind-append n xs ys h more

-- THE REST of a message in front, once bytes went
pub rest_after-within : (rest n : ℕ) (bytes : List ℕ) → n ≤ rest → n ≤ length bytes → rest_after rest n bytes ≡ rest - n
rest_after-within rest zero bytes few fits = omega arith
rest_after-within rest (suc n) [] few fits = absurd (omega arith)
rest_after-within zero (suc n) (b ∷ bs) few fits = absurd (omega arith)
rest_after-within (suc rest) (suc n) (b ∷ bs) few fits = rest_after-within rest n bs (omega arith) (omega arith) ∙ omega arith

-- past the message in front the next one begins
pub rest_after-past : (rest n : ℕ) (bytes : List ℕ) → rest < n → n ≤ length bytes → rest_after rest n bytes ≡ rest_after (message_length (drop rest bytes)) (n - rest) (drop rest bytes)
rest_after-past rest zero bytes more fits = absurd (omega arith)
rest_after-past rest (suc n) [] more fits = absurd (omega arith)
rest_after-past zero (suc n) (b ∷ bs) more fits =
    let all : suc n - 0 ≡ suc n = omega arith in
    sym (ap (λ m. rest_after (message_length (b ∷ bs)) m (b ∷ bs)) all ∙ rest_after-step (message_length (b ∷ bs)) n b bs (omega arith))
rest_after-past (suc rest) (suc n) (b ∷ bs) more fits =
    let less : n - rest ≡ suc n - suc rest = omega arith in
    rest_after-past rest n bs (omega arith) (omega arith) ∙ ap (λ m. rest_after (message_length (drop rest bs)) m (drop rest bs)) less

-- what is left is still the rest of a message and whole messages
pub whole_behind-rest_after : (rest n : ℕ) (bytes : List ℕ) → whole_behind rest bytes ≡ true → n ≤ length bytes → whole_behind (rest_after rest n bytes) (drop n bytes) ≡ true
whole_behind-rest_after rest zero bytes h fits = h
whole_behind-rest_after rest (suc n) [] h fits = absurd (omega arith)
whole_behind-rest_after zero (suc n) (b ∷ bs) h fits = whole_behind-rest_after (message_length (b ∷ bs) - 1) n bs (both_true _ _ h).1 (omega arith)
whole_behind-rest_after (suc rest) (suc n) (b ∷ bs) h fits = whole_behind-rest_after rest n bs h (omega arith)
