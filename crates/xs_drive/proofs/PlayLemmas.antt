-- The lines of events, one after the other, through a buffer.
use Rattle.std.proofs.Common.{◌≡◌, ◌⊎◌, ℕ, zero, suc, ◌+◌, ◌<◌, ◌≤◌, Bool, true, false, cond, List, [], ◌∷◌, ◌++◌, length, map, get_or, drop, Result, Ok, Err, is_err, OnOk, OnErr, Option, inl, inr, sym, ap, subst, ◌∙◌, append_assoc, arith, le_of_suc-le-suc}
use Rattle.std.proofs.lemmas.List.{append-nil, drop_all, drop_more, length-map, get_or-map}
use Rattle.std.proofs.lemmas.Bool.{false≢true}
use Rattle.std.specs.List.{AllByRecursion}
use Rattle.std.specs.Io.KnownBytes.{Appends}
use Rattle.kept_model.specs.Images.{image}
use Rattle.world_model.specs.declared.Said.{Said}
use Rattle.world_model.specs.Worlds.{World, Event}
use Rattle.world_model.specs.Transcripts.{is_handover}
use Rattle.world_states.specs.States.{kept}
use Rattle.guest_script.specs.declared.event.Event.{Event as CodeEvent}
use Rattle.guest_script.specs.Views.{event_view}
use Rattle.program_io.specs.Ends.{AppendsBut, AppendsFront}
use Rattle.program_io.proofs.EndLemmas.{nothing_appended, appends_then, all_then, front_then}
use Rattle.handover.specs.Hands.{Told}
use Rattle.world_core.specs.Stands.{Kept, StandsFor, Moves}
use Rattle.xs_drive.specs.Vaults.{images, MayTake, MayHand}
use Rattle.xs_drive.specs.Play.{line_in, Prints, PrintsNothing, RunsAll, RunsFront}
use Rattle.xs_drive.proofs.HandLemmas.{may_none}
use Rattle.xs_drive.proofs.RunLemmas as run

-- THE EVENT at hand
pub moves_at : (es : List CodeEvent) (i : ℕ) (d : CodeEvent) → AllByRecursion Moves (map event_view es) → i < length es → Moves (event_view (get_or es i d))
moves_at [] i d h lt = absurd (omega arith)
moves_at (e ∷ es) zero d h lt = h.0
moves_at (e ∷ es) (suc i) d h lt = moves_at es i d h.1 (le_of_suc-le-suc lt)

pub split_at : (es : List CodeEvent) (i : ℕ) (e : CodeEvent) → i < length es → e ≡ get_or es i e → drop i (map event_view es) ≡ event_view e ∷ drop (i + 1) (map event_view es)
split_at es i e lt is =
    drop_more (map event_view es) i (event_view e) (omega (arith, length-map es event_view))
    ∙ ap (λ (x : Event). x ∷ drop (i + 1) (map event_view es)) (get_or-map event_view es i e (event_view e) lt ∙ ap event_view (sym is))

-- A RUN THAT GOES ON, from a world that the code's world stood for: it stands for the world at hand, and the lines so far
-- were written but for those in the buffer
pub record Going (w : World) (events : List Event) (vault : Told) (out : Option (List ℕ)) (world : Kept) (left : List Event) (now : Told) (out_now : Option (List ℕ)) (buffer : List ℕ) : Type 0 where
  pub at : World
  pub stands : StandsFor world at
  pub says : List Said
  pub lines : List ℕ
  pub played : run.Played w events vault at left now says lines
  pub written : AppendsBut out out_now lines buffer

pub begins : (w : World) (events : List Event) (vault : Told) (out : Option (List ℕ)) (world : Kept) (buffer : List ℕ) → buffer ≡ [] → StandsFor world w → Going w events vault out world events vault out buffer
begins w events vault out world buffer none stands =
    record { at = w; stands = stands; says = []; lines = []; played = run.none_played w events vault; written = ([], nothing_appended out, sym none) }

module _ (w : World) (events : List Event) (vault : Told) (out : Option (List ℕ)) where
  -- one event and its line
  event_played : (world next : Kept) (e : Event) (left : List Event) (now new : Told) (out_now : Option (List ℕ)) (buffer pushed : List ℕ)
      → Going w events vault out world (e ∷ left) now out_now buffer → Prints world e buffer now next pushed new → Going w events vault out next left new out_now pushed
  event_played world next e left now new out_now buffer pushed going prints =
      let printed = prints going.at going.stands in
      let line : List ℕ = line_in going.at e printed.says in
      record {
        at = run.next going.at e;
        stands = printed.stands;
        says = going.says ++ printed.says;
        lines = going.lines ++ line;
        played = run.one_played w events vault going.at e left now new going.says printed.says going.lines going.played (run.one_of going.at e printed.says now new printed.said);
        written = (
          going.written.0,
          going.written.1,
          ap (λ x. x ++ line) going.written.2 ∙ append_assoc going.written.0 buffer line ∙ ap (λ x. going.written.0 ++ x) (sym printed.printed),
        );
      }

  pub one_more : (world next : Kept) (es : List CodeEvent) (i : ℕ) (e : CodeEvent) (now new : Told) (out_now : Option (List ℕ)) (buffer pushed : List ℕ) → i < length es → e ≡ get_or es i e
      → Going w events vault out world (drop i (map event_view es)) now out_now buffer → Prints world (event_view e) buffer now next pushed new → Going w events vault out next (drop (i + 1) (map event_view es)) new out_now pushed
  one_more world next es i e now new out_now buffer pushed lt is going prints =
      event_played world next (event_view e) (drop (i + 1) (map event_view es)) now new out_now buffer pushed
      (subst (λ (left : List Event). Going w events vault out world left now out_now buffer) (split_at es i e lt is) going) prints

  -- some of the lines were written
  pub some_written : (world : Kept) (left : List Event) (now : Told) (out_now out_new : Option (List ℕ)) (buffer rest : List ℕ)
      → Going w events vault out world left now out_now buffer → AppendsBut out_now out_new buffer rest → Going w events vault out world left now out_new rest
  some_written world left now out_now out_new buffer rest going more = record {
    at = going.at;
    stands = going.stands;
    says = going.says;
    lines = going.lines;
    played = going.played;
    written = (
      going.written.0 ++ more.0,
      appends_then out out_now out_new going.written.0 more.0 going.written.1 more.1,
      going.written.2 ∙ ap (λ x. going.written.0 ++ x) more.2 ∙ sym (append_assoc going.written.0 more.0 rest),
    );
  }

  front_of : (world : Kept) (left : List Event) (now : Told) (out_now out_new : Option (List ℕ)) (buffer : List ℕ) (going : Going w events vault out world left now out_now buffer)
      → AppendsFront out_now out_new buffer → AppendsFront out out_new going.lines
  front_of world left now out_now out_new buffer going more =
      front_then out out_now out_new going.lines buffer []
      (going.written.0, going.written.1, going.written.2 ∙ ap (λ x. going.written.0 ++ x) (sym (append-nil buffer))) more

  -- THE ENDS. A front of the lines was written, and no event came since
  pub stopped : (world : Kept) (left : List Event) (now : Told) (out_now out_new : Option (List ℕ)) (buffer : List ℕ)
      → Going w events vault out world left now out_now buffer → AppendsFront out_now out_new buffer → RunsFront w events out out_new vault now
  stopped world left now out_now out_new buffer going more =
      run.front_played w events vault going.at left now now going.says going.lines going.played (may_none (images going.at left) now)
      out out_new (front_of world left now out_now out_new buffer going more)

  -- or one came of which nothing was printed
  pub event_failed : (at : World) (e : Event) (left : List Event) (now new : Told)
      → ((is_handover e ≡ false) × (new ≡ now)) ⊎ ((is_handover e ≡ true) × MayTake (image (kept at)) now new) → MayHand (images at (e ∷ left)) now new
  event_failed at e left now new (inl plain) = subst (λ (t : Told). MayHand (images at (e ∷ left)) now t) (sym plain.1) (may_none (images at (e ∷ left)) now)
  event_failed at e left now new (inr hands) =
      let later = images (run.next at e) left in
      let some : images at (e ∷ left) ≡ image (kept at) ∷ later = ap (λ b. cond b (image (kept at) ∷ later) later) hands.0 in
      subst (λ (is : List (List ℕ)). MayHand is now new) (sym some) (new, hands.1, may_none later new)

  starved_at : (world : Kept) (e : Event) (left : List Event) (now new : Told) (out_now out_new : Option (List ℕ)) (buffer : List ℕ)
      → Going w events vault out world (e ∷ left) now out_now buffer → PrintsNothing world e now new → AppendsFront out_now out_new buffer → RunsFront w events out out_new vault new
  starved_at world e left now new out_now out_new buffer going nothing more =
      run.front_played w events vault going.at (e ∷ left) now new going.says going.lines going.played
      (event_failed going.at e left now new (nothing going.at going.stands)) out out_new (front_of world (e ∷ left) now out_now out_new buffer going more)

  pub starved : (world : Kept) (es : List CodeEvent) (i : ℕ) (e : CodeEvent) (now new : Told) (out_now out_new : Option (List ℕ)) (buffer : List ℕ) → i < length es → e ≡ get_or es i e
      → Going w events vault out world (drop i (map event_view es)) now out_now buffer → PrintsNothing world (event_view e) now new → AppendsFront out_now out_new buffer → RunsFront w events out out_new vault new
  starved world es i e now new out_now out_new buffer lt is going nothing more =
      starved_at world (event_view e) (drop (i + 1) (map event_view es)) now new out_now out_new buffer
      (subst (λ (left : List Event). Going w events vault out world left now out_now buffer) (split_at es i e lt is) going) nothing more

  -- all events were played, and all lines written
  pub all_done : (world : Kept) (es : List CodeEvent) (i : ℕ) (now : Told) (out_now out_new : Option (List ℕ)) (buffer : List ℕ) → length es ≤ i
      → Going w events vault out world (drop i (map event_view es)) now out_now buffer → Appends out_now out_new buffer → RunsAll w events out out_new vault now
  all_done world es i now out_now out_new buffer le going written =
      let nothing : drop i (map event_view es) ≡ [] = drop_all i (map event_view es) (omega (arith, length-map es event_view)) in
      let played = subst (λ (left : List Event). run.Played w events vault going.at left now going.says going.lines) nothing going.played in
      run.all_played w events vault going.at now going.says going.lines out out_new played (all_then out out_now out_new going.lines buffer going.written written)

-- what a call says that was refused, or was not
pub of_is_err : {T E : Type 0} (r : Result T E) (b : Bool) (P : Type 0) → b ≡ is_err r → b ≡ true → OnErr r P → P
of_is_err (Ok x) b P is err says = absurd (false≢true (sym is ∙ err))
of_is_err (Err e) b P is err says = says

pub of_is_ok : {T E : Type 0} (r : Result T E) (b : Bool) (P : Type 0) → b ≡ is_err r → b ≡ false → OnOk r P → P
of_is_ok (Ok x) b P is ok says = says
of_is_ok (Err e) b P is ok says = absurd (false≢true (sym ok ∙ is))

-- what follows from what an answer says
pub on_ok : {T E : Type 0} (r : Result T E) (P Q : Type 0) → (P → Q) → OnOk r P → OnOk r Q
on_ok (Ok x) P Q f says = f says
on_ok (Err e) P Q f says = says

pub always_err : {T E : Type 0} (r : Result T E) (P : Type 0) → P → OnErr r P
always_err (Ok x) P p = tt
always_err (Err e) P p = p
