use Rattle.std.proofs.Common.{◌≡◌, ◌==◌, ◌&&◌, Bool, true, false, cond, Option, Some, Result, Ok, refl, ap, ◌∙◌, sym, subst}
use Rattle.std.proofs.lemmas.Bool.{ne_eqb}
use Rattle.xs_model.specs.Paths.{Path}
use Rattle.xs_model.specs.Requests.{is_special, one_string}
use Rattle.stream_model.specs.Record.{NodeData}
use Rattle.kept_model.specs.declared.fault.LoadFault.{LoadFault}
use Rattle.kept_model.specs.declared.fault.LoadFault.TheVariants.{BadText, BadPath}
use Rattle.kept_model.specs.Loading.{Loading, load_node_data, load_at, load_node, load_mark, absolute_of}
use Rattle.mig_load.specs.Steps.{Steps}
use Rattle.mig_load.proofs.StepLemmas.{lack, take, refused, at_ok}
use Rattle.mig_load.proofs.loading.Loading.node_data.Goals.{else-item-eq0-via-then-item-eq0+else-is_special, else-item-eq0-via-else-item-eq0}
use Rattle.mig_load.proofs.loading.Loading.node_data.Goals as goal

and_false : (b : Bool) → (b && false) ≡ false
and_false true = refl
and_false false = refl

pub returns-in_default : goal.returns-in_default
returns-in_default c =
    let n = c.args.rec in
    let d : NodeData = c.args.item in
    refused (load_node_data n c.args.self.now d) c.args.self.now (BadText n)
    (lack (one_string d.path) (BadText n) _ (sym (c.in_default.ensures ∙ ap one_string c.as_slice.ensures ∙ ap (λ (e : NodeData). one_string e.path) c.item.view_is)))

pub returns-then-is_special : goal.returns-then-is_special
returns-then-is_special c =
    let n = c.args.rec in
    let d : NodeData = c.args.item in
    let text = c.in-Some.text.now in
    let text_is : one_string d.path ≡ Some text = sym (c.in-Some.ensures ∙ ap one_string c.as_slice.ensures ∙ ap (λ (e : NodeData). one_string e.path) c.item.view_is) in
    let conn_is : c.item.inside.conn ≡ d.conn = ap (λ (e : NodeData). e.conn) c.item.view_is in
    take (one_string d.path) (BadText n) _ text _ text_is
    (ap (λ k. cond (k == 0 && is_special text) (Ok c.args.self.now) (load_at n c.args.self.now d text)) (sym conn_is ∙ c.if-item-eq0.true)
    ∙ ap (λ b. cond b (Ok c.args.self.now) (load_at n c.args.self.now d text)) (sym c.if-is_special.ensures))

pub returns-in_default-2 : goal.returns-in_default-2
returns-in_default-2 c =
    let n = c.args.rec in
    let d : NodeData = c.args.item in
    let text = c.in-Some.text.now in
    let text_is : one_string d.path ≡ Some text = sym (c.in-Some.ensures ∙ ap one_string c.as_slice.ensures ∙ ap (λ (e : NodeData). one_string e.path) c.item.view_is) in
    let conn_is : c.item.inside.conn ≡ d.conn = ap (λ (e : NodeData). e.conn) c.item.view_is in
    let plain : (d.conn == 0 && is_special text) ≡ false = elim c.else-item-eq0.branch [
      | else-item-eq0-via-then-item-eq0+else-is_special w ↦ ap (λ b. d.conn == 0 && b) (sym w.if-is_special.ensures) ∙ and_false (d.conn == 0)
      | else-item-eq0-via-else-item-eq0 w ↦ ap (λ b. b && is_special text) (ap (λ k. k == 0) (sym conn_is) ∙ ne_eqb c.item.inside.conn 0 w.if-item-eq0.false)
    ] in
    let told : c.in_ok-path.field-0 ≡ absolute_of text = at_ok (λ (o : Option Path). o ≡ absolute_of text) c.absolute.result c.in_ok-path.field-0 c.in_ok-path.ensures.ok c.absolute.ensures in
    refused (load_node_data n c.args.self.now d) c.args.self.now (BadPath n)
    (take (one_string d.path) (BadText n) _ text _ text_is (ap (λ b. cond b (Ok c.args.self.now) (load_at n c.args.self.now d text)) plain ∙ lack (absolute_of text) (BadPath n) _ (sym told ∙ c.in_default-2.is)))

pub returns-then-item-eq0-2 : goal.returns-then-item-eq0-2
returns-then-item-eq0-2 c =
    let n = c.args.rec in
    let d : NodeData = c.args.item in
    let text = c.in-Some.text.now in
    let text_is : one_string d.path ≡ Some text = sym (c.in-Some.ensures ∙ ap one_string c.as_slice.ensures ∙ ap (λ (e : NodeData). one_string e.path) c.item.view_is) in
    let conn_is : c.item.inside.conn ≡ d.conn = ap (λ (e : NodeData). e.conn) c.item.view_is in
    let plain : (d.conn == 0 && is_special text) ≡ false = elim c.else-item-eq0.branch [
      | else-item-eq0-via-then-item-eq0+else-is_special w ↦ ap (λ b. d.conn == 0 && b) (sym w.if-is_special.ensures) ∙ and_false (d.conn == 0)
      | else-item-eq0-via-else-item-eq0 w ↦ ap (λ b. b && is_special text) (ap (λ k. k == 0) (sym conn_is) ∙ ne_eqb c.item.inside.conn 0 w.if-item-eq0.false)
    ] in
    let told : c.in_ok-path.field-0 ≡ absolute_of text = at_ok (λ (o : Option Path). o ≡ absolute_of text) c.absolute.result c.in_ok-path.field-0 c.in_ok-path.ensures.ok c.absolute.ensures in
    let p = c.in-Some-2.path in
    let path_is : absolute_of text ≡ Some p = sym told ∙ c.in-Some-2.is in
    let same : load_node_data n c.args.self.now d ≡ load_node n c.args.self.now d p =
    take (one_string d.path) (BadText n) _ text _ text_is (ap (λ b. cond b (Ok c.args.self.now) (load_at n c.args.self.now d text)) plain ∙ take (absolute_of text) (BadPath n) _ p _ path_is (ap (λ k. cond (k == 0) (load_node n c.args.self.now d p) (load_mark n c.args.self.now d p)) (sym conn_is ∙ c.if-item-eq0-2.true))) in
    subst (λ (told : Result Loading LoadFault). Steps told c.args.self.now c.node.new.self c.node.result) (sym same) c.node.ensures

pub returns : goal.returns
returns c =
    let n = c.args.rec in
    let d : NodeData = c.args.item in
    let text = c.in-Some.text.now in
    let text_is : one_string d.path ≡ Some text = sym (c.in-Some.ensures ∙ ap one_string c.as_slice.ensures ∙ ap (λ (e : NodeData). one_string e.path) c.item.view_is) in
    let conn_is : c.item.inside.conn ≡ d.conn = ap (λ (e : NodeData). e.conn) c.item.view_is in
    let plain : (d.conn == 0 && is_special text) ≡ false = elim c.else-item-eq0.branch [
      | else-item-eq0-via-then-item-eq0+else-is_special w ↦ ap (λ b. d.conn == 0 && b) (sym w.if-is_special.ensures) ∙ and_false (d.conn == 0)
      | else-item-eq0-via-else-item-eq0 w ↦ ap (λ b. b && is_special text) (ap (λ k. k == 0) (sym conn_is) ∙ ne_eqb c.item.inside.conn 0 w.if-item-eq0.false)
    ] in
    let told : c.in_ok-path.field-0 ≡ absolute_of text = at_ok (λ (o : Option Path). o ≡ absolute_of text) c.absolute.result c.in_ok-path.field-0 c.in_ok-path.ensures.ok c.absolute.ensures in
    let p = c.in-Some-2.path in
    let path_is : absolute_of text ≡ Some p = sym told ∙ c.in-Some-2.is in
    let same : load_node_data n c.args.self.now d ≡ load_mark n c.args.self.now d p =
    take (one_string d.path) (BadText n) _ text _ text_is (ap (λ b. cond b (Ok c.args.self.now) (load_at n c.args.self.now d text)) plain ∙ take (absolute_of text) (BadPath n) _ p _ path_is (ap (λ b. cond b (load_node n c.args.self.now d p) (load_mark n c.args.self.now d p)) (ap (λ k. k == 0) (sym conn_is) ∙ ne_eqb c.item.inside.conn 0 c.if-item-eq0-2.false))) in
    subst (λ (told : Result Loading LoadFault). Steps told c.args.self.now c.mark.new.self c.mark.result) (sym same) c.mark.ensures
