-- One event and its line, by what the world's step says.
use Rattle.std.proofs.Common.{◌≡◌, ℕ, Bool, true, false, cond, not, List, [], ◌∷◌, ◌++◌, Option, inl, inr, refl, sym, ap, subst, ◌∙◌}
use Rattle.std.specs.Bool.{OnTrue}
use Rattle.xs_model.specs.Requests.{all_types}
use Rattle.kept_model.specs.Images.{image}
use Rattle.world_model.specs.declared.Said.{Said}
use Rattle.world_model.specs.declared.Said.TheVariants as said
use Rattle.world_model.specs.Worlds.{World, Event, Send, Put, Intake, Do, Out, Take, Poke, ShowPage, Handover, event_with}
use Rattle.world_model.specs.Transcripts.{said_words, event_words, spaced, said_line, is_handover}
use Rattle.world_states.specs.States.{kept}
use Rattle.handover.specs.Hands.{Told}
use Rattle.world_core.specs.Stands.{Kept, StandsFor, Follows, Steps}
use Rattle.world_core.specs.Handovers.{HandsAs, HandsOver}
use Rattle.xs_drive.specs.Play.{line_in, Prints, PrintsNothing}
use Rattle.xs_drive.proofs.HandLemmas.{may_take, answers}

-- the bytes of a take are printed, and of no other answer
same_words : (s : Said) (t u : List ℕ) → ((n : ℕ) → s ≡ said.Got n → t ≡ u) → said_words s t ≡ said_words s u
same_words said.Gone t u h = refl
same_words (said.Queued n) t u h = refl
same_words (said.Put n) t u h = refl
same_words said.InFull t u h = refl
same_words (said.DroppedIndex prod cons) t u h = refl
same_words (said.Took n) t u h = refl
same_words said.Part t u h = refl
same_words (said.DroppedLength len) t u h = refl
same_words (said.Held unsent) t u h = refl
same_words (said.Crowded conn) t u h = refl
same_words said.Done t u h = refl
same_words said.NoneQueued t u h = refl
same_words said.NoSpace t u h = refl
same_words (said.Sent n) t u h = refl
same_words (said.Got n) t u h = ap (said_words (said.Got n)) (h n refl)
same_words said.Poked t u h = refl
same_words (said.Page a b c d e) t u h = refl
same_words said.Handed t u h = refl
same_words said.RefusedFault t u h = refl
same_words (said.RefusedChanged at put got) t u h = refl
same_words said.NoMemory t u h = refl

same_line : (e : Event) (s : Said) (t u : List ℕ) → ((n : ℕ) → s ≡ said.Got n → t ≡ u) → said_line e s t ≡ said_line e s u
same_line e s t u h = ap (λ x. spaced (event_words e ++ x) ++ 10 ∷ []) (same_words s t u h)

-- A HANDOVER leaves the world as it is
pub stays : (e : Event) (w : World) → is_handover e ≡ true → (event_with all_types e w).world ≡ w
stays (Send d bytes) w is = cc
stays (Put d max) w is = cc
stays (Intake d max) w is = cc
stays (Do d) w is = cc
stays (Out d max) w is = cc
stays (Take d max) w is = cc
stays (Poke d which v) w is = cc
stays (ShowPage d) w is = cc
stays Handover w is = refl

-- and it does not say what a take says
not_got : (image : List ℕ) (v : Told) (s : Said) (n : Told) (k : ℕ) → HandsAs image v s n → s ≡ said.Got k → ⊥
not_got image v s n k h is = subst (λ (s : Said). HandsAs image v s n) is h

module _ (old new : Kept) (e : Event) (s : Said) (lines lines_new : List ℕ) (vault vault_new : Told) where
  handover_prints : is_handover e ≡ true → (s ≡ said.NoMemory → ⊥) → HandsOver old vault s new vault_new
      → lines_new ≡ lines ++ said_line e s new.taken → Prints old e lines vault new lines_new vault_new
  handover_prints is found hands printed w stands =
      let t = event_with all_types e w in
      let h = hands.hands w stands in
      let line : line_in w e (s ∷ []) ≡ said_line e s new.taken =
      ap (λ b. said_line e (cond b s t.said) t.taken) is ∙ same_line e s t.taken new.taken (λ n got. absurd (not_got (image (kept w)) vault s vault_new n h got)) in
      record {
        stands = subst (StandsFor new) (sym (stays e w is)) (hands.goes_on w stands);
        says = s ∷ [];
        said = (is, answers (image (kept w)) vault s vault_new found h, h);
        printed = printed ∙ ap (λ l. lines ++ l) (sym line);
      }

  follows_of : (w : World) → (s ≡ said.NoMemory → ⊥) → Steps old e new s → StandsFor old w → Follows new s (event_with all_types e w)
  follows_of w found (inl none) stands = absurd (found none.none)
  follows_of w found (inr steps) stands = steps w stands

  step_prints : is_handover e ≡ false → (s ≡ said.NoMemory → ⊥) → Steps old e new s → vault_new ≡ vault
      → lines_new ≡ lines ++ said_line e s new.taken → Prints old e lines vault new lines_new vault_new
  step_prints is found steps same printed w stands =
      let t = event_with all_types e w in
      let follows = follows_of w found steps stands in
      let line : line_in w e [] ≡ said_line e s new.taken =
      ap (λ b. said_line e (cond b said.Handed t.said) t.taken) is ∙ ap (λ x. said_line e x t.taken) (sym follows.says) ∙ sym (same_line e s new.taken t.taken follows.taken) in
      record {
        stands = follows.stands;
        says = [];
        said = (is, same);
        printed = printed ∙ ap (λ l. lines ++ l) (sym line);
      }

  pub prints : (s ≡ said.NoMemory → ⊥) → OnTrue (not (is_handover e)) (Steps old e new s) → OnTrue (not (is_handover e)) (vault_new ≡ vault)
      → OnTrue (is_handover e) (HandsOver old vault s new vault_new) → lines_new ≡ lines ++ said_line e s new.taken → Prints old e lines vault new lines_new vault_new
  prints found steps same hands printed = by (is_handover e) refl steps same hands
    where
      by : (b : Bool) → is_handover e ≡ b → OnTrue (not b) (Steps old e new s) → OnTrue (not b) (vault_new ≡ vault) → OnTrue b (HandsOver old vault s new vault_new) → Prints old e lines vault new lines_new vault_new
      by true is steps same hands = handover_prints is found hands printed
      by false is steps same hands = step_prints is found steps same printed

  -- no line was printed
  pub prints_nothing : OnTrue (not (is_handover e)) (vault_new ≡ vault) → OnTrue (is_handover e) (HandsOver old vault s new vault_new) → PrintsNothing old e vault vault_new
  prints_nothing same hands = by (is_handover e) refl same hands
    where
      by : (b : Bool) → is_handover e ≡ b → OnTrue (not b) (vault_new ≡ vault) → OnTrue b (HandsOver old vault s new vault_new) → PrintsNothing old e vault vault_new
      by true is same hands = λ w stands. inr (is, may_take (image (kept w)) vault s vault_new (hands.hands w stands))
      by false is same hands = λ w stands. inl (is, same)

-- WHAT A VAULT TELLS is the same of the same vault
abbrev pub told_by : {X : Type 0} (puts gets : X → Option (List (List ℕ))) (faults : X → ℕ) (honest : X → Bool) → X → Told
told_by puts gets faults honest x = record { puts = puts x; gets = gets x; faults = faults x; honest = honest x }

pub same_told : {X : Type 0} (puts gets : X → Option (List (List ℕ))) (faults : X → ℕ) (honest : X → Bool) (b : Bool) (old new : X)
    → OnTrue b (new ≡ old) → OnTrue b (told_by puts gets faults honest new ≡ told_by puts gets faults honest old)
same_told puts gets faults honest true old new same = ap (told_by puts gets faults honest) same
same_told puts gets faults honest false old new same = tt
