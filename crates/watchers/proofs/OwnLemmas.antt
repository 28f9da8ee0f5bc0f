-- Watches that stand under the domains of their connections, with one more.
use Rattle.std.specs.Prelude.{◌≡◌, ℕ, Bool, true, false, cond, List, [], ◌∷◌, ◌++◌, filter, Option, Some, None}
use Rattle.std.specs.List.{AllByRecursion}
use Rattle.std.specs.Option.{ForSome}
use Rattle.std.specs.Ordering.{nat_cmp}
use Rattle.std.specs.declared.cmp.Ordering.TheVariants.{Less, Equal, Greater}
use Rattle.std.specs.FinMap.{find, put, nat_cmp-IsAntisymmetric}
use Rattle.std.specs.FinMap.Entries.{by_order}
use Rattle.std.proofs.Common.{refl, sym, subst, ◌∙◌}
use Rattle.xs_model.proofs.Maps.{from_Some}
use Rattle.machine_model.specs.declared.ConnSpec.{ConnSpec}
use Rattle.machine_model.specs.Connections.{caller_of}
use Rattle.conn_table.specs.Tables.{Specs}
use Rattle.watch_table.specs.Tables.{Made}
use Rattle.watchers.specs.Watched.{Watched, or_none, made_by, AreOwn}
use Rattle.watchers.proofs.SentLemmas.{own_watches}

abbrev IsOwn : Specs → ℕ × List Made → Type 0
IsOwn specs e = ForSome (find nat_cmp e.0 specs) (λ spec. AllByRecursion (λ m. m.domid ≡ (caller_of spec).domid) e.1)

own_entry : (specs : Specs) (k : ℕ) (made : List Made) → IsOwn specs (k, made) → (watched : Watched) → AreOwn specs watched → AreOwn specs (put nat_cmp k made watched)
own_entry specs k made new [] own = (new, tt)
own_entry specs k made new (e ∷ es) own =
    elim (nat_cmp k e.0) as (λ o. nat_cmp k e.0 ≡ o → AreOwn specs (by_order o ((k, made) ∷ e ∷ es) ((e.0, made) ∷ es) (e ∷ put nat_cmp k made es))) [
      | Less ↦ λ t. (new, own)
      | Equal ↦ λ t. (subst (λ i. IsOwn specs (i, made)) (nat_cmp-IsAntisymmetric k e.0 t) new, own.1)
      | Greater ↦ λ t. (own.0, own_entry specs k made new es own.1)
    ] refl

own_push : (domid : ℕ) (made : List Made) (m : Made) → AllByRecursion (λ m. m.domid ≡ domid) made → m.domid ≡ domid → AllByRecursion (λ m. m.domid ≡ domid) (made ++ m ∷ [])
own_push domid [] m own is = (is, tt)
own_push domid (n ∷ made) m own is = (own.0, own_push domid made m own.1 is)

pub own_added : (specs : Specs) (k : ℕ) (spec : ConnSpec) (m : Made) (watched : Watched) → AreOwn specs watched → find nat_cmp k specs ≡ Some spec → m.domid ≡ (caller_of spec).domid
    → AreOwn specs (put nat_cmp k (made_by k watched ++ m ∷ []) watched)
own_added specs k spec m watched own there is =
    own_entry specs k (made_by k watched ++ m ∷ [])
    (λ found at. subst (λ (s : ConnSpec). AllByRecursion (λ (n : Made). n.domid ≡ (caller_of s).domid) (made_by k watched ++ m ∷ [])) (from_Some (sym there ∙ at))
    (own_push (caller_of spec).domid (made_by k watched) m (before (find nat_cmp k watched) refl) is))
    watched own
  where
    before : (o : Option (List Made)) → find nat_cmp k watched ≡ o → AllByRecursion (λ m. m.domid ≡ (caller_of spec).domid) (or_none o)
    before None at = tt
    before (Some made) at = own_watches specs k made spec watched own at there

-- and with some less
own_filter : (domid : ℕ) (test : Made → Bool) (made : List Made) → AllByRecursion (λ m. m.domid ≡ domid) made → AllByRecursion (λ m. m.domid ≡ domid) (filter test made)
own_filter domid test [] own = tt
own_filter domid test (m ∷ made) own =
    elim (test m) as (λ b. AllByRecursion (λ m. m.domid ≡ domid) (cond b (m ∷ filter test made) (filter test made))) [
      | true ↦ (own.0, own_filter domid test made own.1)
      | false ↦ own_filter domid test made own.1
    ]

pub own_less : (specs : Specs) (k : ℕ) (test : Made → Bool) (watched : Watched) → AreOwn specs watched → AreOwn specs (put nat_cmp k (filter test (made_by k watched)) watched)
own_less specs k test watched own =
    own_entry specs k (filter test (made_by k watched)) (λ spec there. own_filter (caller_of spec).domid test (made_by k watched) (before spec there (find nat_cmp k watched) refl)) watched own
  where
    before : (spec : ConnSpec) → find nat_cmp k specs ≡ Some spec → (o : Option (List Made)) → find nat_cmp k watched ≡ o → AllByRecursion (λ m. m.domid ≡ (caller_of spec).domid) (or_none o)
    before spec there None at = tt
    before spec there (Some made) at = own_watches specs k made spec watched own at there
