use Rattle.std.proofs.Common.{List, ◌≡◌, not, Bool, Option, Some, Result, Ok, Err, ap, ◌∙◌, sym, subst}
use Rattle.std.proofs.lemmas.Result.{on_ok_weaker, on_err_weaker}
use Rattle.std.specs.List.{list_all}
use Rattle.xs_model.specs.Paths.{parents}
use Rattle.xs_model.specs.Trees.{Node, is_present, has_entry}
use Rattle.xs_model.specs.declared.perm.Perm.{Perm}
use Rattle.stream_model.specs.Record.{NodeData, generation_in}
use Rattle.kept_model.specs.declared.fault.LoadFault.{LoadFault}
use Rattle.kept_model.specs.declared.fault.LoadFault.TheVariants.{BadAccess, BadPerm, Repeated, Orphan}
use Rattle.kept_model.specs.Said.{is_empty, perms_of}
use Rattle.kept_model.specs.Loading.{Loading, load_node, has_come, with_node}
use Rattle.mig_load.specs.Nodes.{Nodes}
use Rattle.mig_load.specs.LoadingView.{loading_view}
use Rattle.mig_load.specs.Steps.{Steps}
use Rattle.mig_load.proofs.StepLemmas.{stop, pass, lack, take, refused, edited, at_ok, is_empty_list, entry_of, with_nodes}
use Rattle.mig_load.proofs.loading.Loading.node.Goals as goal

pub returns-then-is_empty : goal.returns-then-is_empty
returns-then-is_empty c =
    let n = c.args.rec in
    let p = c.args.path in
    let d : NodeData = record { conn = c.item.inside.conn; tx = c.item.inside.tx; access = c.item.inside.access; perms = c.item.inside.perms; path = c.item.inside.path; value = c.item.inside.value } in
    refused (load_node n c.args.self.now c.args.item p) c.args.self.now (BadAccess n)
    (subst (λ (e : NodeData). load_node n c.args.self.now e p ≡ Err (BadAccess n)) c.item.view_is
    (stop (is_empty d.perms) (BadAccess n) _ (is_empty_list d.perms ∙ sym c.if-is_empty.ensures)))

pub returns-in_default : goal.returns-in_default
returns-in_default c =
    let n = c.args.rec in
    let p = c.args.path in
    let d : NodeData = record { conn = c.item.inside.conn; tx = c.item.inside.tx; access = c.item.inside.access; perms = c.item.inside.perms; path = c.item.inside.path; value = c.item.inside.value } in
    let told : c.in_ok-perms.field-0 ≡ perms_of d.perms = at_ok (λ (o : Option (List Perm)). o ≡ perms_of c.as_slice.result.now) c.perms_of.result c.in_ok-perms.field-0 c.in_ok-perms.ensures.ok c.perms_of.ensures ∙ ap perms_of c.as_slice.ensures in
    refused (load_node n c.args.self.now c.args.item p) c.args.self.now (BadPerm n)
    (subst (λ (e : NodeData). load_node n c.args.self.now e p ≡ Err (BadPerm n)) c.item.view_is
    (pass (is_empty d.perms) (BadAccess n) _ _ (is_empty_list d.perms ∙ sym c.if-is_empty.ensures) (lack (perms_of d.perms) (BadPerm n) _ (sym told ∙ c.in_default.is))))

pub returns-then-has_come : goal.returns-then-has_come
returns-then-has_come c =
    let n = c.args.rec in
    let p = c.args.path in
    let d : NodeData = record { conn = c.item.inside.conn; tx = c.item.inside.tx; access = c.item.inside.access; perms = c.item.inside.perms; path = c.item.inside.path; value = c.item.inside.value } in
    let old = loading_view c.self.inside in
    let told : c.in_ok-perms.field-0 ≡ perms_of d.perms = at_ok (λ (o : Option (List Perm)). o ≡ perms_of c.as_slice.result.now) c.perms_of.result c.in_ok-perms.field-0 c.in_ok-perms.ensures.ok c.perms_of.ensures ∙ ap perms_of c.as_slice.ensures in
    let perms = c.in-Some.perms in
    let perms_is : perms_of d.perms ≡ Some perms = sym told ∙ c.in-Some.is in
    refused (load_node n c.args.self.now c.args.item p) c.args.self.now (Repeated n)
    (subst (λ (e : NodeData). load_node n c.args.self.now e p ≡ Err (Repeated n)) c.item.view_is
    (subst (λ (l : Loading). load_node n l d p ≡ Err (Repeated n)) c.self.view_is
    (pass (is_empty d.perms) (BadAccess n) _ _ (is_empty_list d.perms ∙ sym c.if-is_empty.ensures) (take (perms_of d.perms) (BadPerm n) _ perms _ perms_is (stop (has_come old p) (Repeated n) _ (sym c.if-has_come.ensures))))))

pub returns-then-not-branch : goal.returns-then-not-branch
returns-then-not-branch c =
    let n = c.args.rec in
    let p = c.args.path in
    let d : NodeData = record { conn = c.item.inside.conn; tx = c.item.inside.tx; access = c.item.inside.access; perms = c.item.inside.perms; path = c.item.inside.path; value = c.item.inside.value } in
    let old = loading_view c.self.inside in
    let told : c.in_ok-perms.field-0 ≡ perms_of d.perms = at_ok (λ (o : Option (List Perm)). o ≡ perms_of c.as_slice.result.now) c.perms_of.result c.in_ok-perms.field-0 c.in_ok-perms.ensures.ok c.perms_of.ensures ∙ ap perms_of c.as_slice.ensures in
    let perms = c.in-Some.perms in
    let perms_is : perms_of d.perms ≡ Some perms = sym told ∙ c.in-Some.is in
    let tree = c.self.inside.nodes.tree in
    let parent : c.in_ok-or_fault.field-0 ≡ list_all (is_present tree) (parents p) = at_ok (λ (b : Bool). b ≡ list_all (is_present tree) (parents p)) c.has_parent.result c.in_ok-or_fault.field-0 c.in_ok-or_fault.ensures.ok c.has_parent.ensures in
    refused (load_node n c.args.self.now c.args.item p) c.args.self.now (Orphan n)
    (subst (λ (e : NodeData). load_node n c.args.self.now e p ≡ Err (Orphan n)) c.item.view_is
    (subst (λ (l : Loading). load_node n l d p ≡ Err (Orphan n)) c.self.view_is
    (pass (is_empty d.perms) (BadAccess n) _ _ (is_empty_list d.perms ∙ sym c.if-is_empty.ensures) (take (perms_of d.perms) (BadPerm n) _ perms _ perms_is (pass (has_come old p) (Repeated n) _ _ (sym c.if-has_come.ensures) (stop (not (list_all (is_present tree) (parents p))) (Orphan n) _ (ap not (sym parent ∙ c.if-not-branch.true))))))))

pub put-requires-clause-entry : goal.put-requires-clause-entry
put-requires-clause-entry c =
    let d : NodeData = record { conn = c.item.inside.conn; tx = c.item.inside.tx; access = c.item.inside.access; perms = c.item.inside.perms; path = c.item.inside.path; value = c.item.inside.value } in
    let told : c.in_ok-perms.field-0 ≡ perms_of d.perms = at_ok (λ (o : Option (List Perm)). o ≡ perms_of c.as_slice.result.now) c.perms_of.result c.in_ok-perms.field-0 c.in_ok-perms.ensures.ok c.perms_of.ensures ∙ ap perms_of c.as_slice.ensures in
    let perms = c.in-Some.perms in
    let perms_is : perms_of d.perms ≡ Some perms = sym told ∙ c.in-Some.is in
    ap (λ (node : Node). has_entry node.perms) c.new-node.ensures ∙ entry_of d.perms perms perms_is (is_empty_list d.perms ∙ sym c.if-is_empty.ensures)

pub returns : goal.returns
returns c =
    let n = c.args.rec in
    let p = c.args.path in
    let d : NodeData = record { conn = c.item.inside.conn; tx = c.item.inside.tx; access = c.item.inside.access; perms = c.item.inside.perms; path = c.item.inside.path; value = c.item.inside.value } in
    let old = loading_view c.self.inside in
    let told : c.in_ok-perms.field-0 ≡ perms_of d.perms = at_ok (λ (o : Option (List Perm)). o ≡ perms_of c.as_slice.result.now) c.perms_of.result c.in_ok-perms.field-0 c.in_ok-perms.ensures.ok c.perms_of.ensures ∙ ap perms_of c.as_slice.ensures in
    let perms = c.in-Some.perms in
    let perms_is : perms_of d.perms ≡ Some perms = sym told ∙ c.in-Some.is in
    let tree = c.self.inside.nodes.tree in
    let parent : c.in_ok-or_fault.field-0 ≡ list_all (is_present tree) (parents p) = at_ok (λ (b : Bool). b ≡ list_all (is_present tree) (parents p)) c.has_parent.result c.in_ok-or_fault.field-0 c.in_ok-or_fault.ensures.ok c.has_parent.ensures in
    let new = with_nodes c.put.new.self old in
    let last : ◌≡◌ {A = Result Loading LoadFault} (Ok (with_node p (record { value = d.value; perms = perms }) (generation_in d) old)) (Ok (with_node p c.new-node.result c.generation_in-generation.result old)) =
    ap (λ (x : Node). Ok (with_node p x (generation_in d) old)) (sym c.new-node.ensures)
    ∙ ap (λ g. Ok (with_node p c.new-node.result g old)) (ap generation_in c.item.view_is ∙ sym c.generation_in-generation.ensures.value) in
    let made : load_node n old d p ≡ Ok (with_node p c.new-node.result c.generation_in-generation.result old) =
    pass (is_empty d.perms) (BadAccess n) _ _ (is_empty_list d.perms ∙ sym c.if-is_empty.ensures) (take (perms_of d.perms) (BadPerm n) _ perms _ perms_is (pass (has_come old p) (Repeated n) _ _ (sym c.if-has_come.ensures) (pass (not (list_all (is_present tree) (parents p))) (Orphan n) _ _ (ap not (sym parent ∙ c.if-not-branch.false)) (last)))) in
    subst (λ (e : NodeData). Steps (load_node n c.args.self.now e p) c.args.self.now new c.or_fault-3.result) c.item.view_is
    (subst (λ (l : Loading). Steps (load_node n l d p) l new c.or_fault-3.result) c.self.view_is
    (edited (load_node n old d p) old new c.put.result c.or_fault-3.result c.or_fault-3.ensures.same
    (on_ok_weaker c.put.result (λ is. made ∙ ap (λ (nodes : Nodes). Ok (with_nodes nodes old)) (sym is)) c.put.ensures.ok)
    (on_err_weaker c.put.result (λ is. ap (λ (nodes : Nodes). with_nodes nodes old) is) c.put.ensures.err)))
