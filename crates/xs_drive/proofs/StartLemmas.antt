-- The world of a script's head lines, one domain after the other.
use Rattle.std.proofs.Common.{◌≡◌, ℕ, zero, suc, ◌+◌, ◌<◌, ◌≤◌, List, [], ◌∷◌, option_map, Result, Err, length, map, get_or, drop, sym, ap, subst, ◌∙◌, arith, le_of_suc-le-suc}
use Rattle.std.proofs.lemmas.List.{drop_all, drop_more, length-map, get_or-map}
use Rattle.std.specs.List.{AllByRecursion}
use Rattle.world_model.specs.Worlds.{World, add_domain}
use Rattle.kept_model.specs.declared.fault.LoadFault.{LoadFault}
use Rattle.world_model.specs.Scripts.{Script, DomainLine}
use Rattle.world_model.specs.Transcripts.{with_domains}
use Rattle.guest_script.specs.declared.event.DomainLine.{DomainLine as CodeLine}
use Rattle.guest_script.specs.Views.{domain_view}
use Rattle.guest_script.specs.Drafts.{IsSoundDomain}
use Rattle.world_core.specs.Stands.{Kept, StandsFor, AddsDomain}
use Rattle.xs_drive.specs.declared.start.StartFault.{StartFault}
use Rattle.xs_drive.specs.declared.start.StartFault.TheVariants as start
use Rattle.xs_drive.specs.Starts.{Starts, StartsNot, Resumes, ResumesNot, AddsDomains}

-- the code's world stands for one from which the lines to come lead to the last
pub record Started (kept : Kept) (rest : List DomainLine) (last : World) : Type 0 where
  pub w : World
  pub stands : StandsFor kept w
  pub leads : with_domains rest w ≡ last

line_at : (lines : List CodeLine) (i : ℕ) (d : CodeLine) → i < length lines → drop i (map domain_view lines) ≡ domain_view (get_or lines i d) ∷ drop (i + 1) (map domain_view lines)
line_at lines i d lt =
    drop_more (map domain_view lines) i (domain_view d) (omega (arith, length-map lines domain_view))
    ∙ ap (λ (x : DomainLine). x ∷ drop (i + 1) (map domain_view lines)) (get_or-map domain_view lines i d (domain_view d) lt)

pub sound_at : (lines : List CodeLine) (i : ℕ) (d : CodeLine) → AllByRecursion IsSoundDomain (map domain_view lines) → i < length lines → IsSoundDomain (domain_view (get_or lines i d))
sound_at [] i d sound lt = absurd (omega arith)
sound_at (line ∷ lines) zero d sound lt = sound.0
sound_at (line ∷ lines) (suc i) d sound lt = sound_at lines i d sound.1 (le_of_suc-le-suc lt)

pub one_added : (kept next : Kept) (lines : List CodeLine) (i : ℕ) (d : CodeLine) (last : World) → i < length lines → Started kept (drop i (map domain_view lines)) last → AddsDomain kept (get_or lines i d).domid (get_or lines i d).start next → Started next (drop (i + 1) (map domain_view lines)) last
one_added kept next lines i d last lt started adds = record {
  w = add_domain (get_or lines i d).domid (get_or lines i d).start started.w;
  stands = adds.stands started.w started.stands;
  leads = sym (ap (λ rest. with_domains rest started.w) (line_at lines i d lt)) ∙ started.leads;
}

pub all_added : (kept : Kept) (lines : List CodeLine) (i : ℕ) (last : World) → length lines ≤ i → Started kept (drop i (map domain_view lines)) last → StandsFor kept last
all_added kept lines i last le started =
    let nothing : drop i (map domain_view lines) ≡ [] = drop_all i (map domain_view lines) (omega (arith, length-map lines domain_view)) in
    subst (StandsFor kept) (sym (ap (λ rest. with_domains rest started.w) nothing) ∙ started.leads) started.stands

-- THE START by the world before the domains
pub starts_of : (script : Script) (first last : Kept) → Resumes script.resume first → AddsDomains first script.domains last → Starts script last
starts_of script first last resumes adds = record {
  start = with_domains script.domains resumes.first;
  starts = ap (option_map (with_domains script.domains)) resumes.begins;
  stands = adds resumes.first resumes.stands;
}

pub starts_not : (script : Script) (fault : LoadFault) → ResumesNot script.resume fault → StartsNot script fault
starts_not script fault is = record { stream = is.stream; resumes = is.resumes; refused = is.refused }

-- a fault that is handed on, and want of memory, which is none of the stream
pub handed_on : {T : Type 0} (r s : Result T StartFault) (e y : StartFault) (fault : LoadFault) → r ≡ Err e → s ≡ Err y → y ≡ e → s ≡ Err (start.Load fault) → r ≡ Err (start.Load fault)
handed_on r s e y fault was is same h = was ∙ ap Err (sym same) ∙ sym is ∙ h

apart : (T : Type 0) (fault : LoadFault) → ◌≡◌ {A = Result T StartFault} (Err start.NoMemory) (Err (start.Load fault)) → ⊥
apart T fault e = cc

pub no_load : {T A : Type 0} (s : Result T StartFault) (y : StartFault) (fault : LoadFault) → s ≡ Err y → y ≡ start.NoMemory → s ≡ Err (start.Load fault) → A
no_load {T = T} s y fault is same h = absurd (apart T fault (sym (ap Err same) ∙ sym is ∙ h))
