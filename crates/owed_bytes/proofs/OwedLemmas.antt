-- What is owed, by connection: what is found is whole, and what an append leaves.
use Rattle.std.proofs.Common.{◌≡◌, ℕ, ◌==◌, Bool, true, false, cond, List, [], ◌++◌, Some, Result, Ok, Err, OnOk, OnErr, refl, sym, ap, ◌∙◌, eqb-true}
use Rattle.std.proofs.lemmas.List.{append-nil}
use Rattle.std.specs.List.{AllByRecursion}
use Rattle.std.specs.Ordering.{nat_cmp, eq_by_cmp}
use Rattle.std.specs.Cmp.{nat_cmp_total, unsigned_tied}
use Rattle.std.specs.FinMap.{find, put, is_sorted, nat_cmp-IsAntisymmetric}
use Rattle.xs_model.specs.Wholes.{whole_behind}
use Rattle.xs_model.proofs.Maps.{all_found, all_put, found_put, sorted_put, tied, same_maps}
use Rattle.out_queues.proofs.MessageLemmas.{whole_behind-append}
use Rattle.machine_model.specs.History.{Unsent, unsent_to, bytes_or_none}

-- each is owed whole messages
abbrev pub AreWhole : Unsent → Type 0
AreWhole owed = AllByRecursion (λ e. whole_behind 0 e.1 ≡ true) owed

pub whole_there : (c : ℕ) (bytes : List ℕ) (owed : Unsent) → AreWhole owed → Some bytes ≡ find nat_cmp c owed → whole_behind 0 bytes ≡ true
whole_there c bytes owed whole there = all_found nat_cmp (λ b. whole_behind 0 b ≡ true) c owed bytes whole (sym there)

pub whole_put : (c : ℕ) (bytes : List ℕ) (owed : Unsent) → whole_behind 0 bytes ≡ true → AreWhole owed → AreWhole (put nat_cmp c bytes owed)
whole_put c bytes owed is whole = all_put nat_cmp (λ b. whole_behind 0 b ≡ true) c bytes owed is whole

-- whole messages behind whole messages, or behind none
pub whole_pushed : {E : Type 0} (r : Result (Unit {0}) E) (old new messages : List ℕ) → OnOk r (new ≡ old ++ messages) → OnErr r (new ≡ old) → whole_behind 0 old ≡ true → whole_behind 0 messages ≡ true → whole_behind 0 new ≡ true
whole_pushed (Ok u) old new messages ok err had more = ap (whole_behind 0) ok ∙ whole_behind-append 0 old messages had more
whole_pushed (Err e) old new messages ok err had more = ap (whole_behind 0) err ∙ had

pub whole_added : {E : Type 0} (r : Result (Unit {0}) E) (c : ℕ) (messages : List ℕ) (owed new : Unsent) → OnOk r (new ≡ put nat_cmp c messages owed) → OnErr r (new ≡ owed) → whole_behind 0 messages ≡ true → AreWhole owed → AreWhole new
whole_added (Ok u) c messages owed new ok err is whole = rw ok (whole_put c messages owed is whole)
whole_added (Err e) c messages owed new ok err is whole = rw err whole

-- WHAT IS OWED once more is appended to what a connection has
pub owed_more : (conn c : ℕ) (old new messages : List ℕ) (owed : Unsent) → bytes_or_none (find nat_cmp conn owed) ≡ old → new ≡ old ++ messages
    → unsent_to c (put nat_cmp conn new owed) ≡ unsent_to c owed ++ cond (c == conn) messages []
owed_more conn c old new messages owed had is =
    ap bytes_or_none (found_put nat_cmp nat_cmp_total c conn new owed ∙ ap (λ b. cond b (Some new) (find nat_cmp c owed)) (unsigned_tied c conn)) ∙ by (c == conn) refl
  where
    by : (b : Bool) → (c == conn) ≡ b → bytes_or_none (cond b (Some new) (find nat_cmp c owed)) ≡ unsent_to c owed ++ cond b messages []
    by true t = is ∙ ap (λ b. b ++ messages) (sym (ap (λ i. unsent_to i owed) (eqb-true c conn t) ∙ had))
    by false t = sym (append-nil (unsent_to c owed))

-- what is there is put again
pub put_again : (conn : ℕ) (old new : List ℕ) (owed : Unsent) → is_sorted nat_cmp owed ≡ true → Some old ≡ find nat_cmp conn owed → new ≡ old → put nat_cmp conn new owed ≡ owed
put_again conn old new owed rising there is =
    ap (λ b. put nat_cmp conn b owed) is
    ∙ same_maps nat_cmp nat_cmp_total nat_cmp-IsAntisymmetric (put nat_cmp conn old owed) owed (sorted_put nat_cmp nat_cmp_total conn old owed rising) rising
    (λ q. found_put nat_cmp nat_cmp_total q conn old owed ∙ by q (eq_by_cmp nat_cmp q conn) refl)
  where
    by : (q : ℕ) (b : Bool) → eq_by_cmp nat_cmp q conn ≡ b → cond b (Some old) (find nat_cmp q owed) ≡ find nat_cmp q owed
    by q true t = there ∙ ap (λ i. find nat_cmp i owed) (sym (nat_cmp-IsAntisymmetric q conn (tied nat_cmp nat_cmp_total q conn t)))
    by q false t = refl
