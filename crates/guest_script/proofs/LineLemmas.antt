-- The first line of a text.
use Rattle.std.proofs.Common.{◌≡◌, ℕ, zero, suc, ◌+◌, ◌<◌, List, [], ◌∷◌, Some, None, length, get_or, take, drop, refl, add-one, arith}
use Rattle.std.proofs.lemmas.Bool.{ne_eqb}
use Rattle.memchr.specs.Find.{IsFirstByte, is_byte}
use Rattle.world_model.specs.Lines.{lines_of}
use Rattle.guest_script.proofs.SearchLemmas.{none_before, none_at_all, is_there}

-- before the first line feed
first_feed : (text : List ℕ) (i : ℕ) → ((k : ℕ) → k < i → get_or text k 0 ≡ 10 → ⊥) → i < length text → get_or text i 0 ≡ 10 → lines_of text ≡ take i text ∷ lines_of (drop (i + 1) text)
first_feed [] i none inside is = absurd (omega arith)
first_feed (b ∷ bs) zero none inside is = rw is refl
first_feed (b ∷ bs) (suc i) none inside is =
    let other = ne_eqb b 10 (none 0 (omega arith)) in
    let rest = first_feed bs i (λ k h. none (suc k) (omega arith)) (omega arith) is in
    rw (other, rest) (simp add-one)

-- a text with no line feed is its only line
only_feedless : (text : List ℕ) → 0 < length text → ((k : ℕ) → k < length text → get_or text k 0 ≡ 10 → ⊥) → lines_of text ≡ text ∷ []
only_feedless [] inside none = absurd (omega arith)
only_feedless (b ∷ []) inside none = rw (ne_eqb b 10 (none 0 (omega arith))) refl
only_feedless (b ∷ c ∷ bs) inside none =
    let other = ne_eqb b 10 (none 0 (omega arith)) in
    let rest = only_feedless (c ∷ bs) (omega arith) (λ k h. none (suc k) (omega arith)) in
    rw (other, rest) refl

pub first_line : (text : List ℕ) (i : ℕ) → IsFirstByte (is_byte 10) text (Some i) → lines_of text ≡ take i text ∷ lines_of (drop (i + 1) text)
first_line text i found = first_feed text i (none_before text 10 i found) found.0.high (is_there text 10 i found)

pub only_line : (text : List ℕ) → 0 < length text → IsFirstByte (is_byte 10) text None → lines_of text ≡ text ∷ []
only_line text inside absent = only_feedless text inside (none_at_all text 10 absent)
