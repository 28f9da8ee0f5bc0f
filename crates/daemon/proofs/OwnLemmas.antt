-- The watches of connections stay those of their table.
use Rattle.std.proofs.Common.{◌≡◌, ℕ, ◌==◌, Bool, true, false, cond, List, [], ◌∷◌, Option, Some, None, is_some, refl, sym, ap, subst, ◌∙◌, eqb-true}
use Rattle.std.specs.List.{AllByRecursion}
use Rattle.std.specs.Option.{ForSome}
use Rattle.std.specs.Ordering.{nat_cmp}
use Rattle.std.specs.FinMap.{find, put}
use Rattle.std.specs.FinMap.Entries.{where_key}
use Rattle.xs_model.proofs.Maps.{from_Some, not_Some, not_both}
use Rattle.machine_model.specs.declared.ConnSpec.{ConnSpec}
use Rattle.machine_model.specs.Connections.{caller_of}
use Rattle.conn_table.specs.Tables.{Specs}
use Rattle.watch_table.specs.Tables.{Made}
use Rattle.watchers.specs.Watched.{Watched, or_none, made_by, AreOwn}
use Rattle.conn_rows.proofs.IdEntries.{found_at}
use Rattle.conn_rows.proofs.WalkLemmas.{all_weaker, all_at}
use Rattle.conn_rows.proofs.RowLemmas.{all_entry}
use Rattle.daemon.proofs.KeepsLemmas.{found_where}

-- the watches of one connection are of its domain
abbrev pub OfDomain : ConnSpec → List Made → Type 0
OfDomain spec made = AllByRecursion (λ m. m.domid ≡ (caller_of spec).domid) made

abbrev pub IsOwn : Specs → ℕ → List Made → Type 0
IsOwn specs c made = ForSome (find nat_cmp c specs) (λ spec. OfDomain spec made)

-- whoever has watches is there
abbrev pub AreThere : Specs → Watched → Type 0
AreThere specs watched = AllByRecursion (λ e. is_some (find nat_cmp e.0 specs) ≡ true) watched

-- so a connection that is not there has none
pub none_watched : (specs : Specs) (watched : Watched) → AreThere specs watched → (c : ℕ) → find nat_cmp c specs ≡ None → made_by c watched ≡ []
none_watched specs watched there c absent = by (find nat_cmp c watched) refl
  where
    by : (o : Option (List Made)) → find nat_cmp c watched ≡ o → or_none o ≡ []
    by None e = refl
    by (Some made) e = not_both (all_at c made (λ e. is_some (find nat_cmp e.0 specs) ≡ true) watched there e) (ap is_some absent)

-- those of one that is there are of its domain
pub own_there : (specs : Specs) (watched : Watched) → AreOwn specs watched → (c : ℕ) (spec : ConnSpec) → find nat_cmp c specs ≡ Some spec → OfDomain spec (made_by c watched)
own_there specs watched own c spec there = by (find nat_cmp c watched) refl
  where
    by : (o : Option (List Made)) → find nat_cmp c watched ≡ o → OfDomain spec (or_none o)
    by None e = tt
    by (Some made) e = all_at c made (λ e. IsOwn specs e.0 e.1) watched own e spec there

-- ANOTHER END of a connection, that acts for the same domain, or one more connection
own_changed : (specs : Specs) (c : ℕ) (spec : ConnSpec) → ((old : ConnSpec) → find nat_cmp c specs ≡ Some old → (caller_of spec).domid ≡ (caller_of old).domid)
    → (q : ℕ) (made : List Made) → is_some (find nat_cmp q specs) ≡ true → IsOwn specs q made → IsOwn (put nat_cmp c spec specs) q made
own_changed specs c spec same q made there own new found = by (q == c) refl (find nat_cmp q specs) refl there (sym (found_at q c spec specs) ∙ found)
  where
    by : (b : Bool) → (q == c) ≡ b → (o : Option ConnSpec) → find nat_cmp q specs ≡ o → is_some o ≡ true → cond b (Some spec) (find nat_cmp q specs) ≡ Some new → OfDomain new made
    by true t None e h is = cc
    by true t (Some old) e h is =
        let here : find nat_cmp c specs ≡ Some old = ap (λ k. find nat_cmp k specs) (sym (eqb-true q c t)) ∙ e in
        subst (λ d. AllByRecursion (λ m. m.domid ≡ d) made) (sym (same old here) ∙ ap (λ s. (caller_of s).domid) (from_Some is)) (own old e)
    by false t o e h is = own new is

both : (specs : Specs) (watched : Watched) → AreThere specs watched → AreOwn specs watched → AllByRecursion (λ e. (is_some (find nat_cmp e.0 specs) ≡ true) × IsOwn specs e.0 e.1) watched
both specs [] h g = tt
both specs (e ∷ es) h g = ((h.0, g.0), both specs es h.1 g.1)

pub own_put : (specs : Specs) (watched : Watched) → AreThere specs watched → AreOwn specs watched → (c : ℕ) (spec : ConnSpec) → ((old : ConnSpec) → find nat_cmp c specs ≡ Some old → (caller_of spec).domid ≡ (caller_of old).domid) → AreOwn (put nat_cmp c spec specs) watched
own_put specs watched there own c spec same =
    all_weaker (λ e. (is_some (find nat_cmp e.0 specs) ≡ true) × IsOwn specs e.0 e.1) (λ e. IsOwn (put nat_cmp c spec specs) e.0 e.1) (λ e h. own_changed specs c spec same e.0 e.1 h.0 h.1) watched (both specs watched there own)

pub own_added : (specs : Specs) (watched : Watched) → AreThere specs watched → AreOwn specs watched → (c : ℕ) (spec : ConnSpec) → find nat_cmp c specs ≡ None → AreOwn (put nat_cmp c spec specs) watched
own_added specs watched there own c spec absent = own_put specs watched there own c spec (λ old found. not_Some (sym absent ∙ found))

still_there : (specs : Specs) (c : ℕ) (spec : ConnSpec) (q : ℕ) → is_some (find nat_cmp q specs) ≡ true → is_some (find nat_cmp q (put nat_cmp c spec specs)) ≡ true
still_there specs c spec q h = ap is_some (found_at q c spec specs) ∙ by (q == c)
  where
    by : (b : Bool) → is_some (cond b (Some spec) (find nat_cmp q specs)) ≡ true
    by true = refl
    by false = h

pub there_put : (specs : Specs) (watched : Watched) → AreThere specs watched → (c : ℕ) (spec : ConnSpec) → AreThere (put nat_cmp c spec specs) watched
there_put specs watched there c spec =
    all_weaker (λ e. is_some (find nat_cmp e.0 specs) ≡ true) (λ e. is_some (find nat_cmp e.0 (put nat_cmp c spec specs)) ≡ true) (λ e h. still_there specs c spec e.0 h) watched there

-- WITHOUT some
left_all : {X : Type 0} (p : ℕ → Bool) (P Q : ℕ × X → Type 0) → ((e : ℕ × X) → p e.0 ≡ true → P e → Q e) → (es : List (ℕ × X)) → AllByRecursion P es → AllByRecursion Q (where_key nat_cmp p es)
left_all p P Q f [] h = tt
left_all {X} p P Q f (e ∷ es) h =
    elim (p e.0) as (λ b. p e.0 ≡ b → AllByRecursion Q (cond b (e ∷ where_key nat_cmp p es) (where_key nat_cmp p es))) [
      | true ↦ λ t. (f e t h.0, left_all p P Q f es h.1)
      | false ↦ λ t. left_all p P Q f es h.1
    ] refl

found_left : (p : ℕ → Bool) (specs : Specs) (q : ℕ) → p q ≡ true → find nat_cmp q (where_key nat_cmp p specs) ≡ find nat_cmp q specs
found_left p specs q t = found_where p q specs ∙ ap (λ b. cond b (find nat_cmp q specs) None) t

pub own_without : (p : ℕ → Bool) (specs : Specs) (watched : Watched) → AreOwn specs watched → AreOwn (where_key nat_cmp p specs) (where_key nat_cmp p watched)
own_without p specs watched own =
    left_all p (λ e. IsOwn specs e.0 e.1) (λ e. IsOwn (where_key nat_cmp p specs) e.0 e.1)
    (λ e t h spec found. h spec (sym (found_left p specs e.0 t) ∙ found)) watched own

pub there_without : (p : ℕ → Bool) (specs : Specs) (watched : Watched) → AreThere specs watched → AreThere (where_key nat_cmp p specs) (where_key nat_cmp p watched)
there_without p specs watched there =
    left_all p (λ e. is_some (find nat_cmp e.0 specs) ≡ true) (λ e. is_some (find nat_cmp e.0 (where_key nat_cmp p specs)) ≡ true)
    (λ e t h. ap is_some (found_left p specs e.0 t) ∙ h) watched there

pub own_cleared : (p : ℕ → Bool) (specs : Specs) (watched : Watched) → AreOwn specs watched → AreOwn specs (where_key nat_cmp p watched)
own_cleared p specs watched own = left_all p (λ e. IsOwn specs e.0 e.1) (λ e. IsOwn specs e.0 e.1) (λ e t h. h) watched own

pub there_cleared : (p : ℕ → Bool) (specs : Specs) (watched : Watched) → AreThere specs watched → AreThere specs (where_key nat_cmp p watched)
there_cleared p specs watched there = left_all p (λ e. is_some (find nat_cmp e.0 specs) ≡ true) (λ e. is_some (find nat_cmp e.0 specs) ≡ true) (λ e t h. h) watched there

-- OTHER WATCHES of a connection that is there
module _ (specs : Specs) (watched : Watched) (c : ℕ) (spec : ConnSpec) (found : find nat_cmp c specs ≡ Some spec) (made : List Made) where
  pub own_watched : AreOwn specs watched → OfDomain spec made → AreOwn specs (put nat_cmp c made watched)
  own_watched own of_domain =
      all_entry (λ e. IsOwn specs e.0 e.1) c made (λ s there. subst (λ t. OfDomain t made) (from_Some (sym found ∙ there)) of_domain) watched own

  pub there_watched : AreThere specs watched → AreThere specs (put nat_cmp c made watched)
  there_watched there = all_entry (λ e. is_some (find nat_cmp e.0 specs) ≡ true) c made (ap is_some found) watched there
