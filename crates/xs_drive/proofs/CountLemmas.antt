-- The counts of a run, by what its events say.
use Rattle.std.proofs.Common.{◌≡◌, ℕ, ◌+◌, ◌<◌, ◌≤◌, Bool, true, false, cond, not, List, [], ◌∷◌, ◌++◌, length, map, get_or, drop, Option, None, Some, Ok, inl, inr, refl, sym, ap, subst, ◌∙◌, append_assoc, arith}
use Rattle.std.proofs.lemmas.List.{append-nil, drop_all, length-append, length-map}
use Rattle.std.specs.Bool.{OnTrue}
use Rattle.std.specs.List.{AllByRecursion}
use Rattle.std.specs.Io.KnownBytes.{Appends, Keeps}
use Rattle.program_io.specs.Ends.{AppendsFront}
use Rattle.xs_model.specs.Requests.{all_types}
use Rattle.kept_model.specs.Images.{image}
use Rattle.machine_model.proofs.Lists.{all_append}
use Rattle.world_model.specs.declared.Said.{Said}
use Rattle.world_model.specs.declared.Said.TheVariants as said
use Rattle.world_model.specs.Worlds.{World, Event, event_with}
use Rattle.world_model.specs.Scripts.{Script, script_of}
use Rattle.guest_script.specs.Made.{made_script}
use Rattle.world_model.specs.Transcripts.{is_handover, handover_says, said_among, says_after}
use Rattle.world_states.specs.States.{kept}
use Rattle.guest_script.specs.declared.event.Event.{Event as CodeEvent}
use Rattle.guest_script.specs.Views.{event_view}
use Rattle.handover.specs.Hands.{Told}
use Rattle.world_core.specs.Stands.{Kept, StandsFor, Follows, Steps}
use Rattle.world_core.specs.Handovers.{HandsOver}
use Rattle.xs_drive.specs.declared.counting.Counts.{Counts}
use Rattle.xs_drive.specs.Vaults.{images, is_answer, AllHand, HandsOn}
use Rattle.xs_drive.specs.Play.{SaysOf, PrintsNothing}
use Rattle.xs_drive.specs.Counts.{counted, counts_from, no_counts, CountsOne, CountsRun, CountsAllFrom, StopsOnTheWay, StopsFrom, MadeScript, start_in, counts_text, CountsAll, CountsFront, CountsNothing}
use Rattle.xs_drive.proofs.HandLemmas.{answers, hands_both, hands_on, hands_counts, all_handed}
use Rattle.xs_drive.proofs.RunLemmas.{One, one_of, next, to_come}
use Rattle.xs_drive.proofs.PlayLemmas.{split_at, event_failed}
use Rattle.xs_drive.proofs.StepLemmas.{stays}

-- ONE EVENT, by what the world's step says
module _ (old new : Kept) (e : Event) (s : Said) (counts counts_new : Counts) (vault vault_new : Told) (more : counts_new ≡ counted s counts) where
  handover_counts : is_handover e ≡ true → (s ≡ said.NoMemory → ⊥) → HandsOver old vault s new vault_new → CountsOne old e counts vault new counts_new vault_new
  handover_counts is found hands w stands =
      let t = event_with all_types e w in
      let h = hands.hands w stands in
      record {
        stands = subst (StandsFor new) (sym (stays e w is)) (hands.goes_on w stands);
        says = s ∷ [];
        said = (is, answers (image (kept w)) vault s vault_new found h, h);
        more = more ∙ ap (λ x. counted x counts) (sym (ap (λ b. cond b s t.said) is));
      }

  follows_of : (w : World) → (s ≡ said.NoMemory → ⊥) → Steps old e new s → StandsFor old w → Follows new s (event_with all_types e w)
  follows_of w found (inl none) stands = absurd (found none.none)
  follows_of w found (inr steps) stands = steps w stands

  step_counts : is_handover e ≡ false → (s ≡ said.NoMemory → ⊥) → Steps old e new s → vault_new ≡ vault → CountsOne old e counts vault new counts_new vault_new
  step_counts is found steps same w stands =
      let t = event_with all_types e w in
      let follows = follows_of w found steps stands in
      record {
        stands = follows.stands;
        says = [];
        said = (is, same);
        more = more ∙ ap (λ x. counted x counts) (follows.says ∙ sym (ap (λ b. cond b said.Handed t.said) is));
      }

  pub counts_one : (s ≡ said.NoMemory → ⊥) → OnTrue (not (is_handover e)) (Steps old e new s) → OnTrue (not (is_handover e)) (vault_new ≡ vault)
      → OnTrue (is_handover e) (HandsOver old vault s new vault_new) → CountsOne old e counts vault new counts_new vault_new
  counts_one found steps same hands = by (is_handover e) refl steps same hands
    where
      by : (b : Bool) → is_handover e ≡ b → OnTrue (not b) (Steps old e new s) → OnTrue (not b) (vault_new ≡ vault) → OnTrue b (HandsOver old vault s new vault_new) → CountsOne old e counts vault new counts_new vault_new
      by true is steps same hands = handover_counts is found hands
      by false is steps same hands = step_counts is found steps same

-- what it said is the same, whatever handovers behind it say
same_said : (w : World) (e : Event) (says : List Said) (vault now : Told) → SaysOf w e says vault now → (more : List Said)
    → said_among e (says ++ more) (event_with all_types e w).said ≡ said_among e says (event_with all_types e w).said
same_said w e [] vault now h more =
    let t = event_with all_types e w in
    ap (λ b. cond b (handover_says more) t.said) h.0 ∙ sym (ap (λ b. cond b (handover_says []) t.said) h.0)
same_said w e (s ∷ []) vault now h more = refl
same_said w e (s ∷ r ∷ says) vault now h more = absurd h

-- AS FAR AS IT WAS PLAYED: what the handovers so far said, and the counts so far
pub record Tallied (w : World) (events : List Event) (vault : Told) (at : World) (left : List Event) (now : Told) (says : List Said) (counts : Counts) : Type 0 where
  pub given : List (List ℕ)
  pub images_are : images w events ≡ given ++ images at left
  pub count : length says ≡ length given
  pub each : AllByRecursion (λ said. is_answer said ≡ true) says
  pub handed : AllHand given vault says now
  pub counts_are : (more : List Said) → counts_from no_counts w events (says ++ more) ≡ counts_from counts at left more

none_tallied : (w : World) (events : List Event) (vault : Told) → Tallied w events vault w events vault [] no_counts
none_tallied w events vault = record { given = []; images_are = refl; count = refl; each = tt; handed = refl; counts_are = λ more. refl }

module _ (w : World) (events : List Event) (vault : Told) (at : World) (e : Event) (left : List Event) (now new : Told) (says one : List Said) (counts : Counts)
    (tallied : Tallied w events vault at (e ∷ left) now says counts) (said_one : SaysOf at e one now new) where
  o : One at e one now new
  o = one_of at e one now new said_one

  one_tallied : Tallied w events vault (next at e) left new (says ++ one) (counted (said_among e one (event_with all_types e at).said) counts)
  one_tallied = record {
    given = tallied.given ++ o.given;
    images_are = tallied.images_are ∙ ap (λ x. tallied.given ++ x) (o.images_are left) ∙ sym (append_assoc tallied.given o.given (images (next at e) left));
    count = omega (arith, length-append says one, length-append tallied.given o.given, tallied.count, o.count);
    each = all_append (λ said. is_answer said ≡ true) says one tallied.each o.each;
    handed = hands_both tallied.given vault says now o.given one new tallied.handed o.handed;
    counts_are = λ more.
        ap (counts_from no_counts w events) (append_assoc says one more) ∙ tallied.counts_are (one ++ more)
        ∙ ap (λ x. counts_from (counted x counts) (next at e) left (says_after e (one ++ more))) (same_said at e one now new said_one more)
        ∙ ap (λ x. counts_from (counted (said_among e one (event_with all_types e at).said) counts) (next at e) left x) (o.after more);
  }

-- A RUN THAT GOES ON, from a world that the code's world stood for
pub record Counting (w : World) (events : List Event) (vault : Told) (world : Kept) (left : List Event) (now : Told) (counts : Counts) : Type 0 where
  pub at : World
  pub stands : StandsFor world at
  pub says : List Said
  pub tallied : Tallied w events vault at left now says counts

pub begins : (w : World) (events : List Event) (vault : Told) (world : Kept) (counts : Counts) → counts ≡ no_counts → StandsFor world w → Counting w events vault world events vault counts
begins w events vault world counts none stands =
    record { at = w; stands = stands; says = []; tallied = subst (λ (c : Counts). Tallied w events vault w events vault [] c) (sym none) (none_tallied w events vault) }

module _ (w : World) (events : List Event) (vault : Told) where
  event_counted : (world next_world : Kept) (e : Event) (left : List Event) (now new : Told) (counts counts_new : Counts)
      → Counting w events vault world (e ∷ left) now counts → CountsOne world e counts now next_world counts_new new → Counting w events vault next_world left new counts_new
  event_counted world next_world e left now new counts counts_new counting counts_e =
      let one = counts_e counting.at counting.stands in
      record {
        at = next counting.at e;
        stands = one.stands;
        says = counting.says ++ one.says;
        tallied = subst (λ (c : Counts). Tallied w events vault (next counting.at e) left new (counting.says ++ one.says) c) (sym one.more)
            (one_tallied w events vault counting.at e left now new counting.says one.says counts counting.tallied one.said);
      }

  pub one_more : (world next_world : Kept) (es : List CodeEvent) (i : ℕ) (e : CodeEvent) (now new : Told) (counts counts_new : Counts) → i < length es → e ≡ get_or es i e
      → Counting w events vault world (drop i (map event_view es)) now counts → CountsOne world (event_view e) counts now next_world counts_new new
      → Counting w events vault next_world (drop (i + 1) (map event_view es)) new counts_new
  one_more world next_world es i e now new counts counts_new lt is counting one =
      event_counted world next_world (event_view e) (drop (i + 1) (map event_view es)) now new counts counts_new
      (subst (λ (left : List Event). Counting w events vault world left now counts) (split_at es i e lt is) counting) one

  -- THE ENDS. No memory was found
  stops_at : (world : Kept) (e : Event) (left : List Event) (now new : Told) (counts : Counts)
      → Counting w events vault world (e ∷ left) now counts → PrintsNothing world e now new → StopsOnTheWay w events vault new
  stops_at world e left now new counts counting nothing =
      let t = counting.tallied in
      let more = to_come counting.at (e ∷ left) in
      record {
        says = counting.says ++ more;
        k = length counting.says;
        hands = hands_on w events t.given (images counting.at (e ∷ left)) counting.says more (length counting.says) vault now new
            t.images_are t.count (length-map (images counting.at (e ∷ left)) (λ _. said.Handed)) t.each (all_handed (images counting.at (e ∷ left))) t.handed
            (event_failed w events vault None counting.at e left now new (nothing counting.at counting.stands)) (omega arith);
      }

  pub stops : (world : Kept) (es : List CodeEvent) (i : ℕ) (e : CodeEvent) (now new : Told) (counts : Counts) → i < length es → e ≡ get_or es i e
      → Counting w events vault world (drop i (map event_view es)) now counts → PrintsNothing world (event_view e) now new → StopsOnTheWay w events vault new
  stops world es i e now new counts lt is counting nothing =
      stops_at world (event_view e) (drop (i + 1) (map event_view es)) now new counts
      (subst (λ (left : List Event). Counting w events vault world left now counts) (split_at es i e lt is) counting) nothing

  -- or all was played
  pub all_counted : (world : Kept) (es : List CodeEvent) (i : ℕ) (now : Told) (counts : Counts) → length es ≤ i
      → Counting w events vault world (drop i (map event_view es)) now counts → CountsRun w events counts vault now
  all_counted world es i now counts le counting =
      let nothing : drop i (map event_view es) ≡ [] = drop_all i (map event_view es) (omega (arith, length-map es event_view)) in
      let t = subst (λ (left : List Event). Tallied w events vault counting.at left now counting.says counts) nothing counting.tallied in
      record {
        says = counting.says;
        hands = subst (λ (says : List Said). HandsOn w events says (length counting.says) vault now) (append-nil counting.says)
            (hands_on w events t.given [] counting.says [] (length counting.says) vault now now t.images_are t.count refl t.each tt t.handed refl (omega arith));
        all = sym (t.counts_are []) ∙ ap (counts_from no_counts w events) (append-nil counting.says);
      }

-- THE MADE SCRIPT, from the code's world that stands for its start
keeps_all : (out : Option (List ℕ)) → Keeps out out
keeps_all None = tt
keeps_all (Some bytes) = refl

module _ (seed count : ℕ) (script : Script) (reads : script_of (made_script seed count) ≡ Ok script) (world : Kept) (stands : StandsFor world (start_in script)) (vault new : Told) where
  abbrev made_is : MadeScript seed count
  made_is = record { script = script; reads = reads }

  module _ (counts : Counts) (all : CountsAllFrom world script.events counts vault new) where
    pub all_written : (out out_new : Option (List ℕ)) → Appends out out_new (counts_text counts) → CountsAll seed count out out_new vault new
    all_written out out_new wrote = record { made = made_is; counts = counts; run = all (start_in script) stands; wrote = wrote }

    pub front_written : (out out_new : Option (List ℕ)) → AppendsFront out out_new (counts_text counts) → CountsFront seed count out out_new vault new
    front_written out out_new wrote = record { made = made_is; counts = counts; run = all (start_in script) stands; wrote = wrote }

    pub none_written : (out : Option (List ℕ)) → CountsNothing seed count out out vault new
    none_written out =
        let run = all (start_in script) stands in
        record { nothing = keeps_all out; hands = inr (record { made = made_is; run = record { says = run.says; k = length run.says; hands = run.hands } }) }

    pub all_rose : vault.faults ≤ new.faults
    all_rose = let run = all (start_in script) stands in hands_counts (start_in script) script.events run.says (length run.says) vault new run.hands

  module _ (stops : StopsFrom world script.events vault new) where
    pub none_counted : (out : Option (List ℕ)) → CountsNothing seed count out out vault new
    none_counted out = record { nothing = keeps_all out; hands = inr (record { made = made_is; run = stops (start_in script) stands }) }

    pub some_rose : vault.faults ≤ new.faults
    some_rose = let run = stops (start_in script) stands in hands_counts (start_in script) script.events run.says run.k vault new run.hands
