-- What each record keeps, and so all records.
use Rattle.std.specs.Prelude.{◌≡◌, ℕ, ◌+◌, ◌==◌, true, false, cond, ◌&&◌, List, [], ◌∷◌, Ok}
use Rattle.std.specs.List.{AllByRecursion}
use Rattle.xs_model.specs.Paths.{Path}
use Rattle.xs_model.specs.Requests.{one_string, is_special}
use Rattle.stream_model.specs.Record.{StreamRecord, NodeData, global_data, connection_data, watch_data, transaction_data, node_data, end_record}
use Rattle.kept_model.specs.declared.fault.LoadFault.TheVariants.{BadText, BadPath}
use Rattle.kept_model.specs.Loading.{Loading, load_node, load_mark, absolute_of, load_at, load_node_data, load_record, load_from}
use Rattle.kept_model.proofs.LoadTests.{ok_is, given_ok, then_ok}
use Rattle.kept_model.proofs.LoadFits.{Told}
use Rattle.kept_model.proofs.LoadParts.{absolute_spelled}
use Rattle.kept_model.proofs.LoadGood.{Leads, leads_to}
use Rattle.kept_model.proofs.LoadConnections.{globals_step, connection_step}
use Rattle.kept_model.proofs.LoadWatches.{watch_step, transaction_step}
use Rattle.kept_model.proofs.LoadNodes.{node_step, mark_step}

module _ (Fine : ℕ → ℕ → Path → Type 0) where
  at_step : (n : ℕ) (l : Loading) (d : NodeData) (bytes : List ℕ) (next : Loading) → Told (node_data d) → load_at n l d bytes ≡ Ok next → Leads Fine l next
  at_step n l d bytes next told e =
      let path = given_ok (absolute_of bytes) (BadPath n) _ next e in
      let p : Path = path.0 in
      let spelled = absolute_spelled bytes p path.1 in
      (elim (d.conn == 0) as (λ b. cond b (load_node n l d p) (load_mark n l d p) ≡ Ok next → Leads Fine l next) [
        | true ↦ λ g. node_step Fine n l d p next told spelled g
        | false ↦ λ g. mark_step Fine n l d p next told spelled g
      ]) path.2

  node_data_step : (n : ℕ) (l : Loading) (d : NodeData) (next : Loading) → Told (node_data d) → load_node_data n l d ≡ Ok next → Leads Fine l next
  node_data_step n l d next told e =
      let bytes = given_ok (one_string d.path) (BadText n) _ next e in
      (elim (d.conn == 0 && is_special bytes.0) as (λ b. cond b (Ok l) (load_at n l d bytes.0) ≡ Ok next → Leads Fine l next) [
        | true ↦ λ g. leads_to Fine l l next (ok_is g) (λ fine. record { pending = fine; state = λ h. h })
        | false ↦ λ g. at_step n l d bytes.0 next told g
      ]) bytes.2

  -- EVERY RECORD
  record_step : (n : ℕ) (l : Loading) (r : StreamRecord) (next : Loading) → Told r → load_record n l r ≡ Ok next → Leads Fine l next
  record_step n l (global_data d) next told e = globals_step Fine n l d next told e
  record_step n l (connection_data d) next told e = connection_step Fine n l d next told e
  record_step n l (watch_data d) next told e = watch_step Fine n l d next e
  record_step n l (transaction_data d) next told e = transaction_step Fine n l d next told e
  record_step n l (node_data d) next told e = node_data_step n l d next told e
  record_step n l end_record next told e = leads_to Fine l l next (ok_is e) (λ fine. record { pending = fine; state = λ h. h })

  pub records_step : (rs : List StreamRecord) (n : ℕ) (l last : Loading) → AllByRecursion Told rs → load_from n l rs ≡ Ok last → Leads Fine l last
  records_step [] n l last told e fine = leads_to Fine l l last (ok_is e) (λ fine. record { pending = fine; state = λ h. h }) fine
  records_step (r ∷ rs) n l last told e fine =
      let first = then_ok (load_record n l r) (λ next. load_from (n + 1) next rs) last e in
      let later = records_step rs (n + 1) first.0 last told.1 first.2 fine in
      let now = record_step n l r first.0 told.0 first.1 later.pending in
      record { pending = now.pending; state = λ g. later.state (now.state g) }
