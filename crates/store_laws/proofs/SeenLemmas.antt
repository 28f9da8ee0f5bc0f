-- A number that is shown twice.
use Rattle.std.specs.Prelude.{◌≡◌, ℕ, ◌+◌, ◌≤◌, ◌<◌, ◌^◌, ◌%◌, Bool, true, false, List, [], ◌∷◌, ◌++◌, drop, Option, Some, None, is_some, Ok, decimal, ◌⊎◌}
use Rattle.std.specs.List.{AllByRecursion}
use Rattle.std.specs.FinMap.{find}
use Rattle.std.proofs.Common.{sym, refl, ap, subst, ◌∙◌, inl, inr, arith, ⊎_elim, le_trans}
use Rattle.std.proofs.lemmas.Bool.{cases_Bool}
use Rattle.std.proofs.lemmas.Fmt.{decimal_by_steps, decimal_injective}
use Rattle.xs_model.specs.Paths.{Path, path_cmp, has_path}
use Rattle.xs_model.specs.Trees.{Tree, node_at, is_present, children}
use Rattle.xs_model.specs.Messages.{string, strings}
use Rattle.xs_model.specs.Requests.{DirectoryPart}
use Rattle.xs_model.specs.Commands.{up_to_last_nul}
use Rattle.xs_model.specs.Changes.{changed_paths}
use Rattle.xs_model.specs.Generations.{generation_of, greatest, generation_max}
use Rattle.xs_model.specs.Generations.{or_zero}
use Rattle.xs_model.specs.Laws.{IsGiven}
use Rattle.xs_model.proofs.AlikeLemmas.{AlikeOutside, same_children}
use Rattle.xs_model.proofs.ChangeLemmas.{changed_alike}
use Rattle.xs_model.proofs.RightLemmas.{given}
use Rattle.machine_model.specs.Connections.{caller_of}
use Rattle.machine_model.specs.Machine.{Machine}
use Rattle.machine_model.proofs.Lists.{all_append}
use Rattle.store_laws.specs.Lawful.{Move, moved, moved_by, MayMove, MayMoveBy, IsKept}
use Rattle.store_laws.specs.Numbers.{Shows, IsSame}
use Rattle.store_laws.proofs.ChangeLemmas.{move_change}
use Rattle.store_laws.proofs.NumberLemmas.{found_below, number_found, same_presence, greatest_at_most, greatest_grows, changed_number, same_number}
use Rattle.store_laws.proofs.KeptLemmas.{kept_move, kept_moves}

-- A NUMBER IN FRONT OF A PAYLOAD
abbrev pub AreDigits : List ℕ → Type 0
AreDigits ds = AllByRecursion (λ d. 48 ≤ d) ds

pub decimal-digits : (n : ℕ) → n < 2 ^ 64 → AreDigits (decimal n)
decimal-digits = decimal_by_steps (λ n ds. AreDigits ds) (λ n h. (omega arith, tt)) (λ n ds p h. all_append (λ d. 48 ≤ d) ds ((48 + n % 10) ∷ []) h (omega arith, tt))

abbrev head_of : List ℕ → ℕ
head_of [] = 0
head_of (b ∷ bs) = b

same_head : (b c : ℕ) (bs cs : List ℕ) → ◌≡◌ {A = List ℕ} (b ∷ bs) (c ∷ cs) → b ≡ c
same_head b c bs cs e = ap head_of e

pub first_string : (x y a b : List ℕ) → AreDigits x → AreDigits y → string x ++ a ≡ string y ++ b → x ≡ y
first_string [] [] a b h k e = refl
first_string [] (c ∷ y) a b h k e = let same = same_head 0 c _ _ e in absurd (omega (arith, same, k.0))
first_string (c ∷ x) [] a b h k e = let same = same_head c 0 _ _ e in absurd (omega (arith, same, h.0))
first_string (c ∷ x) (d ∷ y) a b h k e = λ i. same_head c d _ _ e i ∷ first_string x y a b h.1 k.1 (ap (λ l. drop 1 l) e) i

-- WHAT IS SHOWN is the number of the path, which is there
module _ (m : Machine) (k : IsKept m) where
  known_number : (p : Path) → generation_of m.gens p ≤ generation_max
  known_number p = number_by (find path_cmp p m.gens) refl
    where
      number_by : (o : Option ℕ) → find path_cmp p m.gens ≡ o → or_zero o ≤ generation_max
      number_by None e = omega arith
      number_by (Some n) e = le_trans (found_below p m.gens n e) (greatest_at_most m.gens generation_max k.numbers.bounded)

  module _ (p : Path) (number : ℕ) (low : number < generation_max) (s : Shows m p number) where
    abbrev shown_number : ℕ
    shown_number = generation_of m.gens p

    shown_given : IsGiven (DirectoryPart s.offset) shown_number m.tree p (caller_of s.asker.spec) (string (decimal number) ++ s.part)
    shown_given = given shown_number m.tree p (caller_of s.asker.spec) _ (DirectoryPart s.offset) refl s.reply

    pub shown_there : is_present m.tree p ≡ true
    shown_there = ap is_some shown_given.there

    pub shown_is : shown_number ≡ number
    shown_is =
        let high = known_number p in
        let texts : decimal number ≡ decimal shown_number =
        first_string (decimal number) (decimal shown_number) s.part _ (decimal-digits number (omega arith)) (decimal-digits shown_number (omega arith)) shown_given.whole
        in
        sym (decimal_injective number shown_number (omega arith) (omega arith) texts)

    pub shown_known : number ≤ greatest m.gens
    shown_known =
        let found = number_found m.gens p (same_presence p m.gens m.tree k.numbers.keys ∙ shown_there) in
        subst (λ n. n ≤ greatest m.gens) shown_is (found_below p m.gens shown_number found)

-- BETWEEN THE TWO: the path is as it was, with its number, or it has a higher one wherever it is there
module _ (served : List ℕ) (p : Path) (number : ℕ) (low : number < generation_max) (first : Tree) where
  pub record IsStill (m : Machine) : Type 0 where
    pub same : IsSame p first m.tree
    pub numbered : generation_of m.gens p ≡ number

  abbrev HasPassed : Machine → Type 0
  HasPassed m = is_present m.tree p ≡ true → number < generation_of m.gens p

  module _ (m : Machine) (k : IsKept m) (move : Move) (may : MayMove m move) (known : number ≤ greatest m.gens) where
    abbrev next : Machine
    next = moved served m move

    abbrev changes : List Path
    changes = changed_paths m.tree (move_change m k.followed served move).written next.tree

    next_kept : IsKept next
    next_kept = kept_move served m k move may

    alike : AlikeOutside changes m.tree next.tree
    alike = let c = move_change m k.followed served move in changed_alike m.tree next.tree c.written c.frame

    now_changed : has_path p changes ≡ true → HasPassed next
    now_changed h there = changed_number m next k.followed.tree next_kept.followed.tree k.numbers (move_change m k.followed served move) p number low known h there

    same_now : has_path p changes ≡ false → is_present next.tree p ≡ true → generation_of next.gens p ≡ generation_of m.gens p
    same_now h there = same_number m next k.followed.tree next_kept.followed.tree k.numbers (move_change m k.followed served move) p number low known h there

    known_next : number ≤ greatest next.gens
    known_next = le_trans known (greatest_grows m next k.followed.tree next_kept.followed.tree k.numbers (move_change m k.followed served move))

    passed_next : HasPassed m → HasPassed next
    passed_next h there = elim (cases_Bool (has_path p changes)) [
      | inl t ↦ now_changed t there
      | inr f ↦ subst (λ n. number < n) (sym (same_now f there)) (h (ap is_some (alike.nodes p f) ∙ there))
    ]

    still_unchanged : has_path p changes ≡ false → IsStill m → IsStill next
    still_unchanged f s =
        let there : is_present next.tree p ≡ true = ap is_some (sym (alike.nodes p f) ∙ s.same.node) ∙ s.same.there in
        record {
          same = record {
            there = s.same.there;
            node = sym (alike.nodes p f) ∙ s.same.node;
            names = sym (same_children changes m.tree next.tree alike k.followed.tree next_kept.followed.tree p f) ∙ s.same.names;
          };
          numbered = same_now f there ∙ s.numbered;
        }

    still_next : IsStill m → IsStill next ⊎ HasPassed next
    still_next s = elim (cases_Bool (has_path p changes)) [ inl t ↦ inr (now_changed t) | inr f ↦ inl (still_unchanged f s) ]

  passed_on : (m : Machine) (moves : List Move) → IsKept m → MayMoveBy served m moves → number ≤ greatest m.gens → HasPassed m → HasPassed (moved_by served m moves)
  passed_on m [] k may known h = h
  passed_on m (move ∷ moves) k may known h =
      passed_on (moved served m move) moves (next_kept m k move may.0 known) may.1 (known_next m k move may.0 known) (passed_next m k move may.0 known h)

  still_on : (m : Machine) (moves more : List Move) → IsKept m → MayMoveBy served m (moves ++ more) → number ≤ greatest m.gens → IsStill m
      → (HasPassed (moved_by served m (moves ++ more)) → ⊥) → IsSame p first (moved_by served m moves).tree
  still_on m [] more k may known s not_passed = s.same
  still_on m (move ∷ moves) more k may known s not_passed =
      let later = moved served m move in
      let kept = next_kept m k move may.0 known in
      let known_later = known_next m k move may.0 known in
      ⊎_elim (λ t. still_on later moves more kept may.1 known_later t not_passed)
      (λ h. absurd (not_passed (passed_on later (moves ++ more) kept may.1 known_later h)))
      (still_next m k move may.0 known s)

pub seen_twice : (served : List ℕ) (m : Machine) (moves more : List Move) (p : Path) (number : ℕ) → IsKept m → MayMoveBy served m (moves ++ more) → number < generation_max
    → Shows m p number → Shows (moved_by served m (moves ++ more)) p number → IsSame p m.tree (moved_by served m moves).tree
seen_twice served m moves more p number k may low s t =
    let last = moved_by served m (moves ++ more) in
    let last_kept = kept_moves served m (moves ++ more) k may in
    still_on served p number low m.tree m moves more k may (shown_known m k p number low s)
    (record { same = record { there = shown_there m k p number low s; node = refl; names = refl }; numbered = shown_is m k p number low s })
    (λ passed. let above = passed (shown_there last last_kept p number low t) in omega (arith, above, shown_is last last_kept p number low t))
