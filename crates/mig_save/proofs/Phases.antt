-- The image of a state is the bytes of its kinds of records, one kind behind the other.
use Rattle.std.proofs.Common.{◌≡◌, ℕ, List, [], ◌∷◌, ◌++◌, map, sym, refl, ap, ◌∙◌, append_assoc, append-nil, ◌+◌, length, length-append, arith}
use Rattle.std.specs.List.{flat_map}
use Rattle.std.proofs.lemmas.Grind.{flat_map-append}
use Rattle.std.proofs.lemmas.List.Folds.{flat_map-map}
use Rattle.xs_model.specs.Trees.{Tree}
use Rattle.xs_model.specs.Paths.{Path}
use Rattle.machine_model.specs.declared.ConnSpec.{ConnSpec}
use Rattle.mark_model.specs.Marks.{Mark}
use Rattle.stream_model.specs.Record.{StreamRecord, end_record}
use Rattle.stream_model.specs.Spelling.{header, canonical_record}
use Rattle.kept_model.specs.States.{ConnectionOf}
use Rattle.kept_model.specs.Images.{watch_record, watch_records, transaction_record, transaction_records, mark_record, mark_records, globals_record, node_record, connection_record, image}
use Rattle.conn_table.specs.Tables.{Specs}
use Rattle.conn_rows.specs.Rows.{Txns, Rows, txns_of, opens_in as kept_in}
use Rattle.watchers.specs.Watched.{Watched, watches_of}
use Rattle.node_tree.specs.KeptTree.{KeptTree}
use Rattle.machine_model.specs.declared.Globals.{Globals}
use Rattle.store_parts.specs.Kept.{Kept, kept_by}
use Rattle.store_parts.specs.States.{Inboxes, transactions_of, connection_of, state_of}
use Rattle.mig_save.specs.Texts.{connection_text, connections_text, watches_text, all_watches_text, transaction_text, transactions_text, all_transactions_text, tree_text, txns_text, all_marks_text}
use Rattle.mig_save.proofs.SoundParts.{opens_are}
use Rattle.mig_save.proofs.RecordSizes.{globals_size, end_size}

abbrev bytes : List StreamRecord → List ℕ
bytes records = flat_map canonical_record records

split : (xs ys : List StreamRecord) → bytes (xs ++ ys) ≡ bytes xs ++ bytes ys
split xs ys = flat_map-append canonical_record xs ys

transactions_same : (c : ℕ) (txns : Txns) → bytes (map (λ f. transaction_record c f.0 f.1) (transactions_of (kept_in txns))) ≡ transactions_text c txns
transactions_same c [] = refl
transactions_same c (e ∷ txns) = ap (λ (x : List ℕ). transaction_text c e ++ x) (transactions_same c txns)

marks_same : (tree : Tree) (c : ℕ) (txns : Txns) → bytes (flat_map (λ e. map (λ f. mark_record tree c e.0 f.0 f.1) e.1.marks) (transactions_of (kept_in txns))) ≡ txns_text tree c txns
marks_same tree c [] = refl
marks_same tree c (e ∷ txns) =
    split (map (λ (f : Path × Mark). mark_record tree c e.0 f.0 f.1) e.1.marks) (flat_map (λ g. map (λ f. mark_record tree c g.0 f.0 f.1) g.1.marks) (transactions_of (kept_in txns)))
    ∙ (λ i. flat_map-map canonical_record (λ (f : Path × Mark). mark_record tree c e.0 f.0 f.1) e.1.marks i ++ marks_same tree c txns i)

-- sizes of parts make that of the whole
summed : (h g a b c d e z : List ℕ) (n1 n2 n3 n4 n5 : ℕ) → length h ≡ 16 → length g ≡ 16 → length z ≡ 8 → n1 ≡ 40 + length a → n2 ≡ n1 + length b → n3 ≡ n2 + length c
    → n4 ≡ n3 + length d → n5 ≡ n4 + length e → n5 ≡ length (((((((h ++ g) ++ a) ++ b) ++ c) ++ d) ++ e) ++ z)
summed h g a b c d e z n1 n2 n3 n4 n5 h1 h2 h3 e1 e2 e3 e4 e5 = simp length-append (omega arith)

module _ (watched : Watched) (rows : Rows) (tree : KeptTree) (globals : Globals) (ins : Inboxes) (all : Specs) where
  abbrev kept : Kept
  kept = kept_by all watched rows tree globals

  abbrev conns_by : Specs → List (ℕ × ConnectionOf Mark)
  conns_by specs = map (λ e. (e.0, connection_of kept ins e.0 e.1)) specs

  connections_same : (specs : Specs) → bytes (map (λ e. connection_record e.0 e.1) (conns_by specs)) ≡ connections_text specs rows.queues ins
  unfolding connection_text
  connections_same [] = refl
  connections_same (e ∷ specs) = ap (λ (x : List ℕ). connection_text rows.queues ins e ++ x) (connections_same specs)

  -- records of each connection
  each_same : (records : ℕ × ConnectionOf Mark → List StreamRecord) (text : ℕ × ConnSpec → List ℕ)
      → ((e : ℕ × ConnSpec) → bytes (records (e.0, connection_of kept ins e.0 e.1)) ≡ text e)
      → (specs : Specs) → bytes (flat_map records (conns_by specs)) ≡ flat_map text specs
  each_same records text is [] = refl
  each_same records text is (e ∷ specs) =
      split (records (e.0, connection_of kept ins e.0 e.1)) (flat_map records (conns_by specs))
      ∙ (λ i. is e i ++ each_same records text is specs i)

  watches_same : (specs : Specs) → bytes (flat_map (λ e. watch_records e.0 e.1) (conns_by specs)) ≡ all_watches_text specs watched
  watches_same = each_same (λ e. watch_records e.0 e.1) (λ e. watches_text e.0 (watches_of e.0 watched)) (λ e. flat_map-map canonical_record (watch_record e.0) (watches_of e.0 watched))

  all_transactions_same : (specs : Specs) → bytes (flat_map (λ e. transaction_records e.0 e.1) (conns_by specs)) ≡ all_transactions_text specs rows.txns
  all_transactions_same =
      each_same (λ e. transaction_records e.0 e.1) (λ e. transactions_text e.0 (txns_of e.0 rows.txns))
      (λ e. ap (λ ts. bytes (map (λ f. transaction_record e.0 f.0 f.1) (transactions_of ts))) (opens_are e.0 rows.txns) ∙ transactions_same e.0 (txns_of e.0 rows.txns))

  all_marks_same : (specs : Specs) → bytes (flat_map (λ e. mark_records tree.nodes e.0 e.1) (conns_by specs)) ≡ all_marks_text specs tree.nodes rows.txns
  all_marks_same =
      each_same (λ e. mark_records tree.nodes e.0 e.1) (λ e. txns_text tree.nodes e.0 (txns_of e.0 rows.txns))
      (λ e. ap (λ ts. bytes (flat_map (λ g. map (λ f. mark_record tree.nodes e.0 g.0 f.0 f.1) g.1.marks) (transactions_of ts))) (opens_are e.0 rows.txns) ∙ marks_same tree.nodes e.0 (txns_of e.0 rows.txns))

  -- the kinds of records, one behind the other
  joined : (g z : StreamRecord) (a b c d e : List StreamRecord) → bytes (g ∷ (a ++ (b ++ (c ++ (d ++ (e ++ z ∷ []))))))
      ≡ canonical_record g ++ (bytes a ++ (bytes b ++ (bytes c ++ (bytes d ++ (bytes e ++ canonical_record z)))))
  joined g z a b c d e =
      ap (λ (x : List ℕ). canonical_record g ++ x)
      (split a (b ++ (c ++ (d ++ (e ++ z ∷ []))))
      ∙ ap (λ (x : List ℕ). bytes a ++ x) (split b (c ++ (d ++ (e ++ z ∷ [])))
      ∙ ap (λ (x : List ℕ). bytes b ++ x) (split c (d ++ (e ++ z ∷ []))
      ∙ ap (λ (x : List ℕ). bytes c ++ x) (split d (e ++ z ∷ [])
      ∙ ap (λ (x : List ℕ). bytes d ++ x) (split e (z ∷ [])
      ∙ ap (λ (x : List ℕ). bytes e ++ x) (append-nil (canonical_record z)))))))

  chained : (h g a b c d e z : List ℕ) → ((((((([] ++ h) ++ g) ++ a) ++ b) ++ c) ++ d) ++ e) ++ z ≡ h ++ (g ++ (a ++ (b ++ (c ++ (d ++ (e ++ z))))))
  chained h g a b c d e z = simp append_assoc

  pub image_is : (o1 o2 o3 o4 o5 o6 o7 o8 : List ℕ) → o1 ≡ [] ++ header → o2 ≡ o1 ++ canonical_record (globals_record globals)
      → o3 ≡ o2 ++ connections_text all rows.queues ins → o4 ≡ o3 ++ all_watches_text all watched → o5 ≡ o4 ++ all_transactions_text all rows.txns
      → o6 ≡ o5 ++ tree_text tree.gens tree.nodes → o7 ≡ o6 ++ all_marks_text all tree.nodes rows.txns → o8 ≡ o7 ++ canonical_record end_record
      → o8 ≡ image (state_of kept ins)
  image_is o1 o2 o3 o4 o5 o6 o7 o8 e1 e2 e3 e4 e5 e6 e7 e8 =
      let a = connections_text all rows.queues ins in
      let b = all_watches_text all watched in
      let c = all_transactions_text all rows.txns in
      let d = tree_text tree.gens tree.nodes in
      let e = all_marks_text all tree.nodes rows.txns in
      let g = canonical_record (globals_record globals) in
      let z = canonical_record end_record in
      let written : o8 ≡ ((((((([] ++ header) ++ g) ++ a) ++ b) ++ c) ++ d) ++ e) ++ z =
      e8 ∙ ap (λ (x : List ℕ). x ++ z) (e7 ∙ ap (λ (x : List ℕ). x ++ e) (e6 ∙ ap (λ (x : List ℕ). x ++ d) (e5 ∙ ap (λ (x : List ℕ). x ++ c) (e4 ∙ ap (λ (x : List ℕ). x ++ b)
      (e3 ∙ ap (λ (x : List ℕ). x ++ a) (e2 ∙ ap (λ (x : List ℕ). x ++ g) e1)))))) in
      written ∙ chained header g a b c d e z
      ∙ ap (λ (x : List ℕ). header ++ x) (
      (λ i. g ++ (sym (connections_same all) i ++ (sym (watches_same all) i ++ (sym (all_transactions_same all) i ++ (sym (flat_map-map canonical_record (λ (n : Path × _). node_record tree.gens n.0 n.1) tree.nodes) i ++ (sym (all_marks_same all) i ++ z))))))
      ∙ sym (joined (globals_record globals) end_record (map (λ e. connection_record e.0 e.1) (conns_by all)) (flat_map (λ e. watch_records e.0 e.1) (conns_by all))
      (flat_map (λ e. transaction_records e.0 e.1) (conns_by all)) (map (λ n. node_record tree.gens n.0 n.1) tree.nodes) (flat_map (λ e. mark_records tree.nodes e.0 e.1) (conns_by all)))
      )

  -- and how long it is
  header_size : length header ≡ 16
  unfolding header
  header_size = refl

  pub image_size : (n1 n2 n3 n4 n5 : ℕ) → n1 ≡ 40 + length (connections_text all rows.queues ins) → n2 ≡ n1 + length (all_watches_text all watched)
      → n3 ≡ n2 + length (all_transactions_text all rows.txns) → n4 ≡ n3 + length (tree_text tree.gens tree.nodes) → n5 ≡ n4 + length (all_marks_text all tree.nodes rows.txns)
      → n5 ≡ length (image (state_of kept ins))
  image_size n1 n2 n3 n4 n5 e1 e2 e3 e4 e5 =
      let a = connections_text all rows.queues ins in
      let b = all_watches_text all watched in
      let c = all_transactions_text all rows.txns in
      let d = tree_text tree.gens tree.nodes in
      let e = all_marks_text all tree.nodes rows.txns in
      let g = canonical_record (globals_record globals) in
      let z = canonical_record end_record in
      let whole = image_is header (header ++ g) ((header ++ g) ++ a) (((header ++ g) ++ a) ++ b) ((((header ++ g) ++ a) ++ b) ++ c) (((((header ++ g) ++ a) ++ b) ++ c) ++ d)
      ((((((header ++ g) ++ a) ++ b) ++ c) ++ d) ++ e) (((((((header ++ g) ++ a) ++ b) ++ c) ++ d) ++ e) ++ z) refl refl refl refl refl refl refl refl in
      summed header g a b c d e z n1 n2 n3 n4 n5 header_size (globals_size globals) end_size e1 e2 e3 e4 e5 ∙ ap length whole
