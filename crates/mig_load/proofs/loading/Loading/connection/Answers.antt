use Rattle.std.proofs.Common.{ℕ, List, ◌≡◌, ◌==◌, ◌||◌, not, [], true, false, is_some, nat_lt, length, Result, Ok, Err, inl, inr, refl, ap, ◌∙◌, sym, subst}
use Rattle.std.proofs.lemmas.Result.{on_ok_weaker, on_err_weaker}
use Rattle.std.proofs.lemmas.Bool.{ne_eqb}
use Rattle.std.specs.List.{list_any}
use Rattle.std.specs.Ordering.{nat_cmp}
use Rattle.std.specs.FinMap.{find, put}
use Rattle.xs_model.specs.Wholes.{whole_behind}
use Rattle.machine_model.specs.declared.bounds.TheConstants.{CROWD_LIMIT}
use Rattle.stream_model.specs.Record.{ConnectionData}
use Rattle.kept_model.specs.declared.fault.LoadFault.{LoadFault}
use Rattle.kept_model.specs.declared.fault.LoadFault.TheVariants.{NoMemory, BadSpec, BadOut, Repeated}
use Rattle.kept_model.specs.States.{ConnectionOf}
use Rattle.kept_model.specs.Said.{Said}
use Rattle.kept_model.specs.Loading.{Loading, load_connection, spec_of, is_one_too_many, is_end_of}
use Rattle.mig_load.specs.LoadingView.{loading_view}
use Rattle.mig_load.specs.Steps.{Steps, with_conns}
use Rattle.mig_load.proofs.StepLemmas.{stop, pass, lack, take, refused, handed_on, edited, at_ok}
use Rattle.std.proofs.Common.{◌<◌, ◌≤◌, ◌⊎◌, Bool, arith}
use Rattle.mig_load.proofs.loading.Loading.connection.Goals as goal

less : (m n : ℕ) → m < n → nat_lt m n ≡ true
less m n h = grind (arith, h)

not_less : (m n : ℕ) → n ≤ m → nat_lt m n ≡ false
not_less m n h = grind (arith, h)

bad_out : (told : Result Loading LoadFault) (fault : LoadFault) (n : ℕ) (b : Bool) → (fault ≡ NoMemory) ⊎ ((fault ≡ BadOut n) × (b ≡ true)) → (b ≡ true → told ≡ Err (BadOut n)) → (fault ≡ NoMemory) ⊎ (told ≡ Err fault)
bad_out told fault n b (inl e) to = inl e
bad_out told fault n b (inr h) to = inr (to h.1 ∙ ap (λ (f : LoadFault). Err f) (sym h.0))

pub returns-then-item-eq0 : goal.returns-then-item-eq0
returns-then-item-eq0 c =
    let n = c.args.rec in
    let d : ConnectionData = record { conn = c.item.inside.conn; kind = c.item.inside.kind; spec = c.item.inside.spec; rest = c.item.inside.rest; inbox = c.item.inside.inbox; unsent = c.item.inside.unsent } in
    refused (load_connection n c.args.self.now c.args.item) c.args.self.now (BadSpec n)
    (subst (λ (e : ConnectionData). load_connection n c.args.self.now e ≡ Err (BadSpec n)) c.item.view_is
    (stop (d.conn == 0) (BadSpec n) _ (ap (λ k. k == 0) c.if-item-eq0.true)))

pub returns-in_default : goal.returns-in_default
returns-in_default c =
    let n = c.args.rec in
    let d : ConnectionData = record { conn = c.item.inside.conn; kind = c.item.inside.kind; spec = c.item.inside.spec; rest = c.item.inside.rest; inbox = c.item.inside.inbox; unsent = c.item.inside.unsent } in
    refused (load_connection n c.args.self.now c.args.item) c.args.self.now (BadSpec n)
    (subst (λ (e : ConnectionData). load_connection n c.args.self.now e ≡ Err (BadSpec n)) c.item.view_is
    (pass (d.conn == 0) (BadSpec n) _ _ (ne_eqb d.conn 0 c.if-item-eq0.false) (lack (spec_of d.kind d.spec) (BadSpec n) _ (sym c.in_default.ensures.spec))))

pub returns-then-is_one_too_many : goal.returns-then-is_one_too_many
returns-then-is_one_too_many c =
    let n = c.args.rec in
    let d : ConnectionData = record { conn = c.item.inside.conn; kind = c.item.inside.kind; spec = c.item.inside.spec; rest = c.item.inside.rest; inbox = c.item.inside.inbox; unsent = c.item.inside.unsent } in
    let old = loading_view c.self.inside in
    let conns = c.self.inside.conns in
    let spec = c.in-Some.spec in
    refused (load_connection n c.args.self.now c.args.item) c.args.self.now (BadSpec n)
    (subst (λ (e : ConnectionData). load_connection n c.args.self.now e ≡ Err (BadSpec n)) c.item.view_is
    (subst (λ (l : Loading). load_connection n l d ≡ Err (BadSpec n)) c.self.view_is
    (pass (d.conn == 0) (BadSpec n) _ _ (ne_eqb d.conn 0 c.if-item-eq0.false) (take (spec_of d.kind d.spec) (BadSpec n) _ spec _ (sym c.in-Some.ensures.spec) (stop (is_one_too_many spec conns) (BadSpec n) _ (sym c.if-is_one_too_many.ensures))))))

pub returns-then-len-gt-INBOX_MAX : goal.returns-then-len-gt-INBOX_MAX
returns-then-len-gt-INBOX_MAX c =
    let n = c.args.rec in
    let d : ConnectionData = record { conn = c.item.inside.conn; kind = c.item.inside.kind; spec = c.item.inside.spec; rest = c.item.inside.rest; inbox = c.item.inside.inbox; unsent = c.item.inside.unsent } in
    let old = loading_view c.self.inside in
    let conns = c.self.inside.conns in
    let spec = c.in-Some.spec in
    refused (load_connection n c.args.self.now c.args.item) c.args.self.now (BadSpec n)
    (subst (λ (e : ConnectionData). load_connection n c.args.self.now e ≡ Err (BadSpec n)) c.item.view_is
    (subst (λ (l : Loading). load_connection n l d ≡ Err (BadSpec n)) c.self.view_is
    (pass (d.conn == 0) (BadSpec n) _ _ (ne_eqb d.conn 0 c.if-item-eq0.false) (take (spec_of d.kind d.spec) (BadSpec n) _ spec _ (sym c.in-Some.ensures.spec) (pass (is_one_too_many spec conns) (BadSpec n) _ _ (sym c.if-is_one_too_many.ensures) (stop (nat_lt 16777216 (length d.inbox)) (BadSpec n) _ (ap (λ k. nat_lt 16777216 k) (sym c.len.ensures) ∙ less 16777216 c.len.result c.if-len-gt-INBOX_MAX.true)))))))

pub returns-in-Err : goal.returns-in-Err
returns-in-Err c =
    let n = c.args.rec in
    let d : ConnectionData = record { conn = c.item.inside.conn; kind = c.item.inside.kind; spec = c.item.inside.spec; rest = c.item.inside.rest; inbox = c.item.inside.inbox; unsent = c.item.inside.unsent } in
    let old = loading_view c.self.inside in
    let conns = c.self.inside.conns in
    let spec = c.in-Some.spec in
    handed_on (load_connection n c.args.self.now c.args.item) c.args.self.now c.in-Err.fault (Err c.in-Err.fault) refl
    (bad_out (load_connection n c.args.self.now c.args.item) c.in-Err.fault n _ c.in-Err.ensures.bad (λ is. subst (λ (e : ConnectionData). load_connection n c.args.self.now e ≡ Err (BadOut n)) c.item.view_is
    (subst (λ (l : Loading). load_connection n l d ≡ Err (BadOut n)) c.self.view_is
    (pass (d.conn == 0) (BadSpec n) _ _ (ne_eqb d.conn 0 c.if-item-eq0.false) (take (spec_of d.kind d.spec) (BadSpec n) _ spec _ (sym c.in-Some.ensures.spec) (pass (is_one_too_many spec conns) (BadSpec n) _ _ (sym c.if-is_one_too_many.ensures) (pass (nat_lt 16777216 (length d.inbox)) (BadSpec n) _ _ (ap (λ k. nat_lt 16777216 k) (sym c.len.ensures) ∙ not_less 16777216 c.len.result c.if-len-gt-INBOX_MAX.false) (stop (nat_lt CROWD_LIMIT (length d.unsent) || not (whole_behind d.rest d.unsent)) (BadOut n) _ is))))))))

pub returns-then-is_taken : goal.returns-then-is_taken
returns-then-is_taken c =
    let n = c.args.rec in
    let d : ConnectionData = record { conn = c.item.inside.conn; kind = c.item.inside.kind; spec = c.item.inside.spec; rest = c.item.inside.rest; inbox = c.item.inside.inbox; unsent = c.item.inside.unsent } in
    let old = loading_view c.self.inside in
    let conns = c.self.inside.conns in
    let spec = c.in-Some.spec in
    refused (load_connection n c.args.self.now c.args.item) c.args.self.now (Repeated n)
    (subst (λ (e : ConnectionData). load_connection n c.args.self.now e ≡ Err (Repeated n)) c.item.view_is
    (subst (λ (l : Loading). load_connection n l d ≡ Err (Repeated n)) c.self.view_is
    (pass (d.conn == 0) (BadSpec n) _ _ (ne_eqb d.conn 0 c.if-item-eq0.false) (take (spec_of d.kind d.spec) (BadSpec n) _ spec _ (sym c.in-Some.ensures.spec) (pass (is_one_too_many spec conns) (BadSpec n) _ _ (sym c.if-is_one_too_many.ensures) (pass (nat_lt 16777216 (length d.inbox)) (BadSpec n) _ _ (ap (λ k. nat_lt 16777216 k) (sym c.len.ensures) ∙ not_less 16777216 c.len.result c.if-len-gt-INBOX_MAX.false) (pass (nat_lt CROWD_LIMIT (length d.unsent) || not (whole_behind d.rest d.unsent)) (BadOut n) _ _ c.in-Ok.ensures.good (stop (is_some (find nat_cmp d.conn conns) || list_any (λ e. is_end_of spec e.1.spec) conns) (Repeated n) _ (sym c.if-is_taken.ensures)))))))))

pub returns : goal.returns
returns c =
    let n = c.args.rec in
    let d : ConnectionData = record { conn = c.item.inside.conn; kind = c.item.inside.kind; spec = c.item.inside.spec; rest = c.item.inside.rest; inbox = c.item.inside.inbox; unsent = c.item.inside.unsent } in
    let old = loading_view c.self.inside in
    let conns = c.self.inside.conns in
    let spec = c.in-Some.spec in
    let queue = c.in-Ok.queue in
    let inbox = c.in_ok-inbox.inbox in
    let inbox_is : inbox ≡ d.inbox = at_ok (λ (bytes : List ℕ). bytes ≡ c.as_slice.result.now) c.of.result inbox c.in_ok-inbox.ensures.ok c.of.ensures ∙ c.as_slice.ensures in
    let new = with_conns c.add.new.self old in
    let told : load_connection n old d ≡ Ok (with_conns (put nat_cmp d.conn (record { spec = spec; watches = []; inbox = inbox; rest = queue.rest; unsent = queue.bytes; opens = [] }) conns) old) =
    pass (d.conn == 0) (BadSpec n) _ _ (ne_eqb d.conn 0 c.if-item-eq0.false) (take (spec_of d.kind d.spec) (BadSpec n) _ spec _ (sym c.in-Some.ensures.spec) (pass (is_one_too_many spec conns) (BadSpec n) _ _ (sym c.if-is_one_too_many.ensures) (pass (nat_lt 16777216 (length d.inbox)) (BadSpec n) _ _ (ap (λ k. nat_lt 16777216 k) (sym c.len.ensures) ∙ not_less 16777216 c.len.result c.if-len-gt-INBOX_MAX.false) (pass (nat_lt CROWD_LIMIT (length d.unsent) || not (whole_behind d.rest d.unsent)) (BadOut n) _ _ c.in-Ok.ensures.good (pass (is_some (find nat_cmp d.conn conns) || list_any (λ e. is_end_of spec e.1.spec) conns) (Repeated n) _ _ (sym c.if-is_taken.ensures) (λ i. Ok (with_conns (put nat_cmp d.conn (record { spec = spec; watches = []; inbox = sym inbox_is i; rest = sym c.in-Ok.ensures.ok.1 i; unsent = sym c.in-Ok.ensures.ok.0 i; opens = [] }) conns) old))))))) in
    subst (λ (e : ConnectionData). Steps (load_connection n c.args.self.now e) c.args.self.now new c.or_fault-2.result) c.item.view_is
    (subst (λ (l : Loading). Steps (load_connection n l d) l new c.or_fault-2.result) c.self.view_is
    (edited (load_connection n old d) old new c.add.result c.or_fault-2.result c.or_fault-2.ensures.same
    (on_ok_weaker c.add.result (λ is. told ∙ ap (λ (conns : List (ℕ × ConnectionOf Said)). Ok (with_conns conns old)) (sym is)) c.add.ensures.ok)
    (on_err_weaker c.add.result (λ is. ap (λ (conns : List (ℕ × ConnectionOf Said)). with_conns conns old) is) c.add.ensures.err)))
