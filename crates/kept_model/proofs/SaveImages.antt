-- The image of a sound state tells that state.
use Rattle.std.specs.Prelude.{◌≡◌, ℕ, ◌+◌, List, [], ◌∷◌, ◌++◌, map, Result, Ok}
use Rattle.std.specs.List.{AllByRecursion, flat_map}
use Rattle.std.proofs.Common.{sym, refl, ap, subst, ◌∙◌}
use Rattle.xs_model.specs.Paths.{Path}
use Rattle.xs_model.specs.Trees.{Node, Tree, IsTree}
use Rattle.mark_model.specs.Marks.{Mark}
use Rattle.mark_model.proofs.StoreMaps.{with_values}
use Rattle.stream_model.specs.Record.{StreamRecord, end_record}
use Rattle.stream_model.specs.Spelling.{canonical}
use Rattle.stream_model.proofs.CanonicalIsStream.{canonical_is_stream}
use Rattle.stream_model.proofs.SpelledIsRead.{stream_of-spelled}
use Rattle.kept_model.specs.declared.fault.LoadFault.{LoadFault}
use Rattle.kept_model.specs.States.{State, TransactionOf, ConnectionOf}
use Rattle.kept_model.specs.Sound.{IsSound}
use Rattle.kept_model.specs.Loading.{Loading, load_from, ◌>>=◌}
use Rattle.kept_model.specs.Normal.{normal_transaction, normal_connection, normal_state, state_of_records, state_by, state_of_bytes}
use Rattle.kept_model.specs.Images.{watch_records, transaction_records, mark_records, connection_record, node_record, records_of, image}
use Rattle.kept_model.proofs.SaveSound.{TransactionFits, ConnectionFits, all_fit}
use Rattle.kept_model.proofs.SaveNormal.{normal_same}
use Rattle.kept_model.proofs.SaveWritable.{writable}
use Rattle.kept_model.proofs.SaveLoads.{loads_globals}
use Rattle.kept_model.proofs.SaveLeads.{Tells, ends}
use Rattle.kept_model.proofs.SaveNodes.{nodes_lead}
use Rattle.kept_model.proofs.SavePhases.{opened, said_transaction, full, conns_lead, watches_lead, transactions_lead, kept_lead}

-- NORMALISATION leaves what transactions keep
module _ (tree : Tree) (is : IsTree tree) where
  opens_again : (ts : List (ℕ × TransactionOf Mark)) → AllByRecursion (TransactionFits tree) ts → with_values (normal_transaction tree) (with_values (said_transaction tree) ts) ≡ ts
  opens_again [] h = refl
  opens_again (t ∷ ts) h = λ i. (t.0, record { count = t.1.count; marks = normal_same tree is t.1.marks h.0.over i }) ∷ opens_again ts h.1 i

  conn_again : (e : ℕ × ConnectionOf Mark) → ConnectionFits tree e → normal_connection tree (full tree e.1) ≡ e.1
  conn_again e h = λ i. record {
    spec = e.1.spec;
    watches = e.1.watches;
    inbox = e.1.inbox;
    rest = e.1.rest;
    unsent = e.1.unsent;
    opens = opens_again e.1.opens h.opens i;
  }

  conns_again : (es : List (ℕ × ConnectionOf Mark)) → AllByRecursion (ConnectionFits tree) es → with_values (normal_connection tree) (with_values (full tree) es) ≡ es
  conns_again [] h = refl
  conns_again (e ∷ es) h = λ i. (e.0, conn_again e h.0 i) ∷ conns_again es h.1 i

module _ (s : State) (sound : IsSound s) where
  state_again : normal_state (record { tree = s.tree; gens = s.gens; globals = s.globals; conns = with_values (full s.tree) s.conns }) ≡ s
  state_again = λ i. record { tree = s.tree; gens = s.gens; globals = s.globals; conns = conns_again s.tree sound.store.kept.tree s.conns (all_fit s sound) i }

  -- the records from each phase on
  abbrev from_marks : List StreamRecord
  from_marks = flat_map (λ (e : ℕ × ConnectionOf Mark). mark_records s.tree e.0 e.1) s.conns ++ end_record ∷ []

  abbrev from_nodes : List StreamRecord
  from_nodes = map (λ (e : Path × Node). node_record s.gens e.0 e.1) s.tree ++ from_marks

  abbrev from_transactions : List StreamRecord
  from_transactions = flat_map (λ (e : ℕ × ConnectionOf Mark). transaction_records e.0 e.1) s.conns ++ from_nodes

  abbrev from_watches : List StreamRecord
  from_watches = flat_map (λ (e : ℕ × ConnectionOf Mark). watch_records e.0 e.1) s.conns ++ from_transactions

  abbrev from_conns : List StreamRecord
  from_conns = map (λ (e : ℕ × ConnectionOf Mark). connection_record e.0 e.1) s.conns ++ from_watches

  records_tell : state_of_records (records_of s) ≡ Ok s
  records_tell =
      let marks = kept_lead s sound (end_record ∷ []) (ends s (with_values (full s.tree) s.conns) state_again) in
      let nodes = nodes_lead s sound (with_values opened s.conns) from_marks marks in
      let transactions = transactions_lead s sound from_nodes nodes in
      let conns = conns_lead s sound from_watches (watches_lead s sound from_transactions transactions) in
      subst (λ (x : Result Loading LoadFault). Tells s (x >>= (λ l. load_from (0 + 1) l from_conns))) (sym (loads_globals s.globals)) (conns (0 + 1) [] tt)

  pub image_tells : state_of_bytes (image s) ≡ Ok s
  image_tells = ap state_by (stream_of-spelled (canonical (records_of s)) (records_of s) (canonical_is_stream (records_of s) (writable s sound))) ∙ records_tell
