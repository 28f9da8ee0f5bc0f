-- Chains of tests, step by step, and what they answer where memory may be wanting.
use Rattle.std.proofs.Common.{◌≡◌, ℕ, ◌==◌, Bool, true, false, List, [], ◌∷◌, length, arith, Option, Some, None, is_some, option_map, Result, IfOk, ◌⊎◌, Ok, Err, inl, inr, refl, sym, ap, subst, ◌∙◌}
use Rattle.std.specs.Result.{OnOk, OnErr}
use Rattle.std.specs.Ordering.{nat_cmp}
use Rattle.std.specs.FinMap.{find}
use Rattle.stream_model.specs.Record.{TransactionData}
use Rattle.kept_model.specs.declared.fault.LoadFault.{LoadFault}
use Rattle.kept_model.specs.declared.fault.LoadFault.TheVariants.{NoMemory, BadSpec, Repeated, UnknownConn}
use Rattle.kept_model.specs.States.{ConnectionOf}
use Rattle.kept_model.specs.Said.{Said, is_empty, perm_of, perms_of}
use Rattle.kept_model.proofs.LoadTests.{then_some}
use Rattle.xs_model.specs.Requests.{◌>>=◌}
use Rattle.xs_model.specs.Trees.{has_entry}
use Rattle.xs_model.specs.declared.perm.Perm.{Perm}
use Rattle.xs_model.proofs.Maps.{from_Some}
use Rattle.stream_model.specs.declared.record.RawPerm.{RawPerm}
use Rattle.mig_load.specs.Nodes.{Nodes}
use Rattle.kept_model.specs.Loading.{Loading, unless, given, conns_in, load_transaction}
use Rattle.mig_load.specs.Memory.{faulted}
use Rattle.mig_load.specs.Came.{changed_found, changed_at, opened}
use Rattle.mig_load.specs.Steps.{Steps, with_conns}
use Rattle.mig_load.proofs.CameLemmas.{there_is}

-- TESTS
pub stop : {A : Type 0} (b : Bool) (fault : LoadFault) (next : Result A LoadFault) → b ≡ true → unless b fault next ≡ Err fault
unfolding unless
stop true fault next e = refl
stop false fault next e = absurd (Rattle.std.proofs.lemmas.Bool.false≢true e)

pub pass : {A : Type 0} (b : Bool) (fault : LoadFault) (next r : Result A LoadFault) → b ≡ false → next ≡ r → unless b fault next ≡ r
unfolding unless
pass true fault next r e is = absurd (Rattle.std.proofs.lemmas.Bool.false≢true (sym e))
pass false fault next r e is = is

pub lack : {A B : Type 0} (o : Option A) (fault : LoadFault) (f : A → Result B LoadFault) → o ≡ None → given o fault f ≡ Err fault
unfolding given
lack None fault f e = refl
lack (Some x) fault f e = Rattle.xs_model.proofs.Maps.not_Some (sym e)

pub take : {A B : Type 0} (o : Option A) (fault : LoadFault) (f : A → Result B LoadFault) (x : A) (r : Result B LoadFault) → o ≡ Some x → f x ≡ r → given o fault f ≡ r
unfolding given
take None fault f x r e is = Rattle.xs_model.proofs.Maps.not_Some e
take (Some y) fault f x r e is = ap f (Rattle.xs_model.proofs.Maps.from_Some e) ∙ is

-- ANSWERS
pub refused : (told : Result Loading LoadFault) (l : Loading) (fault : LoadFault) → told ≡ Err fault → Steps told l l (Err fault)
refused told l fault e = (inr e, refl)

pub edited : {E : Type 0} (told : Result Loading LoadFault) (old new : Loading) (r : Result (Unit {0}) E) (result : Result (Unit {0}) LoadFault) → result ≡ faulted r
    → OnOk r (told ≡ Ok new) → OnErr r (new ≡ old) → Steps told old new result
edited told old new (Ok done) result e ok err = subst (λ (s : Result (Unit {0}) LoadFault). Steps told old new s) (sym e) ok
edited told old new (Err error) result e ok err = subst (λ (s : Result (Unit {0}) LoadFault). Steps told old new s) (sym e) (inl refl, err)

-- TRANSACTIONS
module _ (n : ℕ) (l : Loading) (d : TransactionData) where
  pub transaction_unknown : is_some (find nat_cmp d.conn (conns_in l)) ≡ false → load_transaction n l d ≡ Err (UnknownConn n)
  transaction_unknown h = lack (find nat_cmp d.conn (conns_in l)) (UnknownConn n) _ (Rattle.kept_model.proofs.LoadEnds.none_found (find nat_cmp d.conn (conns_in l)) h)

  module _ (there : is_some (find nat_cmp d.conn (conns_in l)) ≡ true) where
    pub transaction_zero : (d.tx == 0) ≡ true → load_transaction n l d ≡ Err (BadSpec n)
    transaction_zero h =
        let found = there_is (find nat_cmp d.conn (conns_in l)) there in
        take (find nat_cmp d.conn (conns_in l)) (UnknownConn n) _ found.0 _ found.1 (stop (d.tx == 0) (BadSpec n) _ h)

    pub transaction_again : (d.tx == 0) ≡ false → ((found : ConnectionOf Said) → find nat_cmp d.conn (conns_in l) ≡ Some found → is_some (find nat_cmp d.tx found.opens) ≡ true)
        → load_transaction n l d ≡ Err (Repeated n)
    transaction_again z h =
        let found = there_is (find nat_cmp d.conn (conns_in l)) there in
        take (find nat_cmp d.conn (conns_in l)) (UnknownConn n) _ found.0 _ found.1
        (pass (d.tx == 0) (BadSpec n) _ _ z (stop (is_some (find nat_cmp d.tx found.0.opens)) (Repeated n) _ (h found.0 found.1)))

    pub transaction_told : (d.tx == 0) ≡ false → ((found : ConnectionOf Said) → find nat_cmp d.conn (conns_in l) ≡ Some found → is_some (find nat_cmp d.tx found.opens) ≡ false)
        → load_transaction n l d ≡ Ok (with_conns (changed_at d.conn (opened d.tx d.count) (conns_in l)) l)
    transaction_told z h =
        let found = there_is (find nat_cmp d.conn (conns_in l)) there in
        take (find nat_cmp d.conn (conns_in l)) (UnknownConn n) _ found.0 _ found.1
        (pass (d.tx == 0) (BadSpec n) _ _ z (pass (is_some (find nat_cmp d.tx found.0.opens)) (Repeated n) _ _ (h found.0 found.1)
        (ap (λ o. Ok (with_conns (changed_found d.conn (opened d.tx d.count) (conns_in l) o) l)) (sym found.1))))

-- a fault that was handed on
pub handed_on : (told : Result Loading LoadFault) (l : Loading) (fault : LoadFault) (result : Result (Unit {0}) LoadFault) → result ≡ Err fault → (fault ≡ NoMemory) ⊎ (told ≡ Err fault) → Steps told l l result
handed_on told l fault result e why = subst (λ (s : Result (Unit {0}) LoadFault). Steps told l l s) (sym e) (why, refl)

pub none_mapped : {A B : Type 0} (f : A → B) (o : Option A) → None ≡ option_map f o → o ≡ None
none_mapped f None e = refl
none_mapped f (Some x) e = Rattle.xs_model.proofs.Maps.not_Some e

pub at_ok : {T E : Type 0} (P : T → Type 0) (r : Result T E) (x : T) → r ≡ Ok x → IfOk r P → P x
at_ok {T} {E} P r x e h = subst (λ (s : Result T E). IfOk s P) e h

pub is_empty_list : {A : Type 0} (xs : List A) → is_empty xs ≡ (length xs == 0)
is_empty_list [] = refl
is_empty_list (x ∷ xs) = sym (Rattle.std.proofs.lemmas.Bool.ne_eqb (length (x ∷ xs)) 0 (λ h. absurd (omega arith)))

pub at_on_ok : {T E P : Type 0} (r : Result T E) (x : T) → r ≡ Ok x → OnOk r P → P
at_on_ok {T} {E} {P} r x e h = subst (λ (s : Result T E). OnOk s P) e h

-- NODES
abbrev pub with_nodes : Nodes → Loading → Loading
with_nodes nodes l = record {
  state = record { tree = nodes.tree; gens = nodes.gens; globals = l.state.globals; conns = l.state.conns };
  has_globals = l.has_globals;
  has_root = nodes.has_root;
  pending = l.pending;
}

pub entry_of : (raws : List RawPerm) (perms : List Perm) → perms_of raws ≡ Some perms → is_empty raws ≡ false → has_entry perms ≡ true
entry_of [] perms e some = absurd (Rattle.std.proofs.lemmas.Bool.false≢true (sym some))
entry_of (raw ∷ raws) perms e some =
    let first = then_some (λ perm. perms_of raws >>= (λ perms. Some (perm ∷ perms))) (perm_of raw) perms e in
    let rest = then_some (λ (perms : List Perm). Some (first.0 ∷ perms)) (perms_of raws) perms first.2 in
    subst (λ (ps : List Perm). has_entry ps ≡ true) (from_Some rest.2) refl
