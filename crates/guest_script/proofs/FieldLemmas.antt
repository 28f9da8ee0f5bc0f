-- The first field of a text, and how many fields follow.
use Rattle.std.proofs.Common.{◌≡◌, ℕ, zero, suc, ◌+◌, ◌<◌, ◌==◌, Bool, true, false, cond, List, [], ◌∷◌, length, get_or, take, drop, Some, None, Ok, Err, refl, add-one, arith}
use Rattle.std.proofs.lemmas.Bool.{ne_eqb}
use Rattle.memchr.specs.Find.{IsFirstByte, is_byte}
use Rattle.world_model.specs.declared.LineKind.TheVariants.{Fields}
use Rattle.world_model.specs.Scripts.{◌>>=◌, fields_of, onto_field, no_field, one_field, two_fields, three_fields}
use Rattle.guest_script.proofs.SearchLemmas.{none_before, none_at_all, is_there}

-- before the first space
before_space : (text : List ℕ) (i : ℕ) → ((k : ℕ) → k < i → get_or text k 0 ≡ 32 → ⊥) → i < length text → get_or text i 0 ≡ 32 → fields_of text ≡ take i text ∷ fields_of (drop (i + 1) text)
before_space [] i none inside is = absurd (omega arith)
before_space (b ∷ bs) zero none inside is = rw is refl
before_space (b ∷ bs) (suc i) none inside is =
    let other = ne_eqb b 32 (none 0 (omega arith)) in
    let rest = before_space bs i (λ k h. none (suc k) (omega arith)) (omega arith) is in
    rw (other, rest) (simp add-one)

-- a text with no space is its only field
no_space : (text : List ℕ) → ((k : ℕ) → k < length text → get_or text k 0 ≡ 32 → ⊥) → fields_of text ≡ text ∷ []
no_space [] none = refl
no_space (b ∷ bs) none =
    let other = ne_eqb b 32 (none 0 (omega arith)) in
    let rest = no_space bs (λ k h. none (suc k) (omega arith)) in
    rw (other, rest) refl

pub first_field : (text : List ℕ) (i : ℕ) → IsFirstByte (is_byte 32) text (Some i) → fields_of text ≡ take i text ∷ fields_of (drop (i + 1) text)
first_field text i found = before_space text i (none_before text 32 i found) found.0.high (is_there text 32 i found)

pub only_field : (text : List ℕ) → IsFirstByte (is_byte 32) text None → fields_of text ≡ text ∷ []
only_field text absent = no_space text (none_at_all text 32 absent)

-- every text has a field, if only an empty one
record HasField (fields : List (List ℕ)) : Type 0 where
  first : List ℕ
  later : List (List ℕ)
  are : fields ≡ first ∷ later

onto_field-HasField : (b : ℕ) (fields : List (List ℕ)) → HasField (onto_field b fields)
onto_field-HasField b [] = record { first = b ∷ []; later = []; are = refl }
onto_field-HasField b (f ∷ fs) = record { first = b ∷ f; later = fs; are = refl }

either_way : (space : Bool) (b : ℕ) (fields : List (List ℕ)) → HasField (cond space ([] ∷ fields) (onto_field b fields))
either_way true b fields = record { first = []; later = fields; are = refl }
either_way false b fields = onto_field-HasField b fields

fields_of-HasField : (text : List ℕ) → HasField (fields_of text)
fields_of-HasField [] = record { first = []; later = []; are = refl }
fields_of-HasField (b ∷ bs) = either_way (b == 32) b (fields_of bs)

pub no_field_of_some : (text : List ℕ) → no_field (fields_of text) ≡ Err Fields
no_field_of_some text = rw (fields_of-HasField text).are refl

pub one_field_of_more : (f text : List ℕ) → one_field (f ∷ fields_of text) ≡ Err Fields
one_field_of_more f text = rw (fields_of-HasField text).are refl

-- a field, and then one fewer
pub two_fields_by_one : (f : List ℕ) (fs : List (List ℕ)) → two_fields (f ∷ fs) ≡ (one_field fs >>= λ g. Ok (f, g))
two_fields_by_one f [] = refl
two_fields_by_one f (g ∷ []) = refl
two_fields_by_one f (g ∷ h ∷ fs) = refl

pub three_fields_by_two : (f : List ℕ) (fs : List (List ℕ)) → three_fields (f ∷ fs) ≡ (two_fields fs >>= λ both. Ok (f, both.0, both.1))
three_fields_by_two f [] = refl
three_fields_by_two f (g ∷ []) = refl
three_fields_by_two f (g ∷ h ∷ []) = refl
three_fields_by_two f (g ∷ h ∷ i ∷ fs) = refl
