-- A run as far as it was played: what its handovers said, its lines, and what is still to come.
use Rattle.std.proofs.Common.{◌≡◌, ℕ, ◌+◌, ◌-◌, ◌<◌, ◌≤◌, min, Bool, true, false, cond, List, [], ◌∷◌, ◌++◌, length, take, map, nat_le, Option, refl, sym, ap, subst, ◌∙◌, append_assoc, arith}
use Rattle.std.proofs.Math.Nat.{zero-add}
use Rattle.std.proofs.Math.Seq.{take-length}
use Rattle.std.proofs.lemmas.Bool.{cond-false, le-leb, lt-leb, leb-true, leb-false}
use Rattle.std.proofs.lemmas.List.{append-nil, length-append, length-map, take-append-le, take_min}
use Rattle.std.specs.List.{AllByRecursion}
use Rattle.std.specs.Io.KnownBytes.{Appends}
use Rattle.xs_model.specs.Requests.{all_types}
use Rattle.kept_model.specs.Images.{image}
use Rattle.machine_model.proofs.Lists.{all_append}
use Rattle.world_model.specs.declared.Said.{Said}
use Rattle.world_model.specs.declared.Said.TheVariants as said
use Rattle.world_model.specs.Worlds.{World, Event, event_with}
use Rattle.world_model.specs.Transcripts.{is_handover, said_line, event_line, handover_says, later_says, says_after, lines_from}
use Rattle.world_states.specs.States.{kept}
use Rattle.program_io.specs.Ends.{AppendsFront}
use Rattle.handover.specs.Hands.{Told}
use Rattle.xs_drive.specs.Vaults.{images, is_answer, AllHand, MayHand, told_within, HandsOn}
use Rattle.xs_drive.specs.Play.{line_in, SaysOf, RunsAll, RunsFront}
use Rattle.xs_drive.proofs.HandLemmas.{hands_both, hands_on, all_handed}

-- THE FIRST EVENT of a run that goes on
abbrev pub next : World → Event → World
next w e = (event_with all_types e w).world

pub record One (w : World) (e : Event) (says : List Said) (vault now : Told) : Type 0 where
  pub given : List (List ℕ)
  pub images_are : (left : List Event) → images w (e ∷ left) ≡ given ++ images (next w e) left
  pub count : length says ≡ length given
  pub each : AllByRecursion (λ said. is_answer said ≡ true) says
  pub handed : AllHand given vault says now
  pub line : (more : List Said) → event_line e (says ++ more) (event_with all_types e w) ≡ line_in w e says
  pub after : (more : List Said) → says_after e (says ++ more) ≡ more
  pub told : (n : ℕ) → cond (is_handover e) (n + 1) n ≡ length says + n

pub one_of : (w : World) (e : Event) (says : List Said) (vault now : Told) → SaysOf w e says vault now → One w e says vault now
one_of w e [] vault now h =
    let t = event_with all_types e w in
    record {
      given = [];
      images_are = λ left. ap (λ b. cond b (image (kept w) ∷ images (next w e) left) (images (next w e) left)) h.0;
      count = refl;
      each = tt;
      handed = h.1;
      line = λ more.
          ap (λ b. said_line e (cond b (handover_says more) t.said) t.taken) h.0
          ∙ sym (ap (λ b. said_line e (cond b (handover_says []) t.said) t.taken) h.0);
      after = λ more. ap (λ b. cond b (later_says more) more) h.0;
      told = λ n. ap (λ b. cond b (n + 1) n) h.0 ∙ sym (zero-add n);
    }
one_of w e (s ∷ []) vault now h =
    let t = event_with all_types e w in
    record {
      given = image (kept w) ∷ [];
      images_are = λ left. ap (λ b. cond b (image (kept w) ∷ images (next w e) left) (images (next w e) left)) h.0;
      count = refl;
      each = (h.1, tt);
      handed = (now, h.2, refl);
      line = λ more.
          ap (λ b. said_line e (cond b s t.said) t.taken) h.0
          ∙ sym (ap (λ b. said_line e (cond b s t.said) t.taken) h.0);
      after = λ more. ap (λ b. cond b more (s ∷ more)) h.0;
      told = λ n. ap (λ b. cond b (n + 1) n) h.0 ∙ omega arith;
    }
one_of w e (s ∷ r ∷ says) vault now h = absurd h

-- HANDOVERS WHOSE LINES ARE THERE: none where no byte is, since a line has a byte at least
some_line : (xs : List ℕ) → 0 < length (xs ++ 10 ∷ [])
some_line xs = omega (arith, length-append xs (10 ∷ []))

told_none : (w : World) (events : List Event) (says : List Said) → told_within 0 w events says ≡ 0
told_none w [] says = refl
told_none w (e ∷ es) says = cond-false _ _ _ (lt-leb (length (event_line e says (event_with all_types e w))) 0 (some_line _))

module _ (w : World) (e : Event) (left : List Event) (says : List Said) (vault now : Told) (one : One w e says vault now) where
  abbrev len : ℕ
  len = length (line_in w e says)

  abbrev told_first : ℕ → ℕ → List Said → ℕ
  told_first line n after =
      cond (nat_le line n) (cond (is_handover e) (told_within (n - line) (next w e) left after + 1) (told_within (n - line) (next w e) left after)) 0

  told_is : (n : ℕ) (more : List Said) → told_within n w (e ∷ left) (says ++ more) ≡ told_first len n more
  told_is n more = ap (λ l. told_first (length l) n (says_after e (says ++ more))) (one.line more) ∙ ap (told_first len n) (one.after more)

  pub first_told : (n : ℕ) (more : List Said) → told_within (len + n) w (e ∷ left) (says ++ more) ≡ length says + told_within n (next w e) left more
  first_told n more =
      let rest : (len + n) - len ≡ n = omega arith in
      told_is (len + n) more
      ∙ ap (λ b. cond b (cond (is_handover e) (told_within ((len + n) - len) (next w e) left more + 1) (told_within ((len + n) - len) (next w e) left more)) 0) (le-leb len (len + n) (omega arith))
      ∙ ap (λ k. cond (is_handover e) (told_within k (next w e) left more + 1) (told_within k (next w e) left more)) rest
      ∙ one.told (told_within n (next w e) left more)

  first_of : (m : ℕ) (more : List Said) → m ≤ len → (b : Bool) → nat_le len m ≡ b
      → cond b (cond (is_handover e) (told_within (m - len) (next w e) left more + 1) (told_within (m - len) (next w e) left more)) 0 ≤ length says
  first_of m more le false is = omega arith
  first_of m more le true is =
      let none : m - len ≡ 0 = omega (arith, le) in
      let value = ap (λ k. cond (is_handover e) (told_within k (next w e) left more + 1) (told_within k (next w e) left more)) none
      ∙ ap (λ x. cond (is_handover e) (x + 1) x) (told_none (next w e) left more) ∙ one.told 0 in
      omega (arith, value)

  pub first_few : (m : ℕ) (more : List Said) → m ≤ len → told_within m w (e ∷ left) (says ++ more) ≤ length says
  first_few m more le = subst (λ (k : ℕ). k ≤ length says) (sym (told_is m more)) (first_of m more le (nat_le len m) refl)

  pub first_lines : (more : List Said) → lines_from all_types w (e ∷ left) (says ++ more) ≡ line_in w e says ++ lines_from all_types (next w e) left more
  first_lines more =
      ap (λ l. l ++ lines_from all_types (next w e) left (says_after e (says ++ more))) (one.line more)
      ∙ ap (λ s. line_in w e says ++ lines_from all_types (next w e) left s) (one.after more)

-- AS FAR AS IT WAS PLAYED: the world at hand, the events to come, what the handovers so far said, and the lines so far
pub record Played (w : World) (events : List Event) (vault : Told) (at : World) (left : List Event) (now : Told) (says : List Said) (lines : List ℕ) : Type 0 where
  pub given : List (List ℕ)
  pub images_are : images w events ≡ given ++ images at left
  pub count : length says ≡ length given
  pub each : AllByRecursion (λ said. is_answer said ≡ true) says
  pub handed : AllHand given vault says now
  pub lines_are : (more : List Said) → lines_from all_types w events (says ++ more) ≡ lines ++ lines_from all_types at left more
  pub told : (n : ℕ) (more : List Said) → told_within (length lines + n) w events (says ++ more) ≡ length says + told_within n at left more
  pub few : (n : ℕ) (more : List Said) → n ≤ length lines → told_within n w events (says ++ more) ≤ length says

pub none_played : (w : World) (events : List Event) (vault : Told) → Played w events vault w events vault [] []
none_played w events vault = record {
  given = [];
  images_are = refl;
  count = refl;
  each = tt;
  handed = refl;
  lines_are = λ more. refl;
  told = λ n more. ap (λ k. told_within k w events more) (zero-add n) ∙ sym (zero-add (told_within n w events more));
  few = λ n more le.
      let none : n ≡ 0 = omega (arith, le) in
      let value = ap (λ k. told_within k w events more) none ∙ told_none w events more in
      omega (arith, value);
}

module _ (w : World) (events : List Event) (vault : Told) (at : World) (e : Event) (left : List Event) (now new : Told) (says one : List Said) (lines : List ℕ)
    (played : Played w events vault at (e ∷ left) now says lines) (o : One at e one now new) where
  abbrev line : List ℕ
  line = line_in at e one

  told_more : (n : ℕ) (more : List Said) → told_within (length (lines ++ line) + n) w events ((says ++ one) ++ more) ≡ length (says ++ one) + told_within n (next at e) left more
  told_more n more =
      let places : length (lines ++ line) + n ≡ length lines + (length line + n) = omega (arith, length-append lines line) in
      let value = ap (λ k. told_within k w events ((says ++ one) ++ more)) places
      ∙ ap (told_within (length lines + (length line + n)) w events) (append_assoc says one more)
      ∙ played.told (length line + n) (one ++ more)
      ∙ ap (λ x. length says + x) (first_told at e left one now new o n more) in
      value ∙ omega (arith, length-append says one)

  few_more : (n : ℕ) (more : List Said) → n ≤ length (lines ++ line) → told_within n w events ((says ++ one) ++ more) ≤ length (says ++ one)
  few_more n more le =
      subst (λ (ss : List Said). told_within n w events ss ≤ length (says ++ one)) (sym (append_assoc says one more)) (by (nat_le n (length lines)) refl)
    where
      by : (b : Bool) → nat_le n (length lines) ≡ b → told_within n w events (says ++ (one ++ more)) ≤ length (says ++ one)
      by true is =
          let few = played.few n (one ++ more) (leb-true n (length lines) is) in
          omega (arith, few, length-append says one)
      by false is =
          let past : length lines < n = leb-false n (length lines) is in
          let m : ℕ = n - length lines in
          let place : n ≡ length lines + m = omega (arith, past) in
          let few = first_few at e left one now new o m more (omega (arith, le, past, length-append lines line)) in
          let value = ap (λ k. told_within k w events (says ++ (one ++ more))) place ∙ played.told m (one ++ more) in
          omega (arith, few, value, length-append says one)

  pub one_played : Played w events vault (next at e) left new (says ++ one) (lines ++ line)
  one_played = record {
    given = played.given ++ o.given;
    images_are = played.images_are ∙ ap (λ x. played.given ++ x) (o.images_are left) ∙ sym (append_assoc played.given o.given (images (next at e) left));
    count = omega (arith, length-append says one, length-append played.given o.given, played.count, o.count);
    each = all_append (λ said. is_answer said ≡ true) says one played.each o.each;
    handed = hands_both played.given vault says now o.given one new played.handed o.handed;
    lines_are = λ more.
        ap (lines_from all_types w events) (append_assoc says one more) ∙ played.lines_are (one ++ more)
        ∙ ap (λ x. lines ++ x) (first_lines at e left one now new o more) ∙ sym (append_assoc lines line (lines_from all_types (next at e) left more));
    told = told_more;
    few = few_more;
  }

-- THE ENDS of a run
abbrev pub to_come : World → List Event → List Said
to_come at left = map (λ _. said.Handed) (images at left)

module _ (w : World) (events : List Event) (vault : Told) (at : World) (left : List Event) (now new : Told) (says : List Said) (lines : List ℕ)
    (played : Played w events vault at left now says lines) (may : MayHand (images at left) now new) where
  pub played_hands : (n : ℕ) → n ≤ length lines → HandsOn w events (says ++ to_come at left) (told_within n w events (says ++ to_come at left)) vault new
  played_hands n le =
      hands_on w events played.given (images at left) says (to_come at left) (told_within n w events (says ++ to_come at left)) vault now new
      played.images_are played.count (length-map (images at left) (λ _. said.Handed)) played.each (all_handed (images at left)) played.handed may (played.few n (to_come at left) le)

  -- a front of the lines was written
  pub front_played : (out out_new : Option (List ℕ)) → AppendsFront out out_new lines → RunsFront w events out out_new vault new
  front_played out out_new front =
      let n : ℕ = min front.0 (length lines) in
      let le : n ≤ length lines = omega arith in
      let same : take n (lines_from all_types w events (says ++ to_come at left)) ≡ take front.0 lines =
      ap (take n) (played.lines_are (to_come at left)) ∙ take-append-le n lines (lines_from all_types at left (to_come at left)) le ∙ take_min front.0 lines in
      record {
        says = says ++ to_come at left;
        n = n;
        run = record { wrote = subst (λ (x : List ℕ). Appends out out_new x) (sym same) front.1; hands = played_hands n le };
      }

-- or all of them
pub all_played : (w : World) (events : List Event) (vault : Told) (at : World) (now : Told) (says : List Said) (lines : List ℕ) (out out_new : Option (List ℕ))
    → Played w events vault at [] now says lines → Appends out out_new lines → RunsAll w events out out_new vault now
all_played w events vault at now says lines out out_new played wrote =
    let text : List ℕ = lines_from all_types w events (says ++ []) in
    let whole : text ≡ lines = played.lines_are [] ∙ append-nil lines in
    let places : length text ≡ length lines + 0 = omega (arith, ap length whole) in
    let told = ap (λ k. told_within k w events (says ++ [])) places ∙ played.told 0 [] in
    record {
      says = says ++ [];
      run = record {
        wrote = subst (λ (x : List ℕ). Appends out out_new x) (sym (take-length text ∙ whole)) wrote;
        hands = played_hands w events vault at [] now now says lines played refl (length text) (omega (arith, ap length whole));
      };
      all = told ∙ omega (arith, length-append says []);
    }
