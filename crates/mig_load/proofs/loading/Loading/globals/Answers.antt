use Rattle.std.proofs.Common.{◌≡◌, true, Ok, refl, ap, ◌∙◌, sym, w32}
use Rattle.std.proofs.Math.Facts.{to_z-of_z}
use Rattle.stream_model.specs.Record.{GlobalData}
use Rattle.machine_model.specs.declared.Globals.{Globals}
use Rattle.kept_model.specs.declared.fault.LoadFault.TheVariants.{Repeated}
use Rattle.kept_model.specs.Loading.{Loading, load_globals}
use Rattle.mig_load.specs.LoadingView.{loading_view}
use Rattle.mig_load.proofs.StepLemmas.{stop, pass, refused}
use Rattle.mig_load.proofs.loading.Loading.globals.Goals as goal

abbrev with_globals : Globals → Loading → Loading
with_globals globals l = record {
  state = record { tree = l.state.tree; gens = l.state.gens; globals = globals; conns = l.state.conns };
  has_globals = true;
  has_root = l.has_root;
  pending = l.pending;
}

pub returns-then-self : goal.returns-then-self
returns-then-self c =
    let d : GlobalData = record { rw_socket_fd = c.args.rw_socket_fd; evtchn_fd = c.args.evtchn_fd } in
    refused (load_globals c.args.rec c.args.self.now d) c.args.self.now (Repeated c.args.rec)
    (stop c.args.self.now.has_globals (Repeated c.args.rec) _ (sym (ap (λ (l : Loading). l.has_globals) c.self.view_is) ∙ c.if-self.true))

pub returns : goal.returns
returns c =
    let n = c.args.rec in
    let d : GlobalData = record { rw_socket_fd = c.args.rw_socket_fd; evtchn_fd = c.args.evtchn_fd } in
    let old = loading_view c.self.inside in
    let rw = to_z-of_z {w = w32} c.ranges.rw_socket_fd in
    let evtchn = to_z-of_z {w = w32} c.ranges.evtchn_fd in
    let told : load_globals n old d ≡ Ok (with_globals (record { rw_socket_fd = c.args.rw_socket_fd; evtchn_fd = c.args.evtchn_fd }) old) =
    pass old.has_globals (Repeated n) _ _ c.if-self.false refl in
    sym (ap (λ (l : Loading). load_globals n l d) c.self.view_is) ∙ told
    ∙ (λ i. Ok (with_globals (record { rw_socket_fd = sym rw i; evtchn_fd = sym evtchn i }) old))
