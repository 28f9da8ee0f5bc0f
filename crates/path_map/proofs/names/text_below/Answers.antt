use Rattle.std.proofs.Common.{◌∷◌, ◌++◌, sym, ap, ◌∙◌}
use Rattle.xs_model.specs.Paths.{names_text, path_of}
use Rattle.path_map.proofs.NamesBelow.{way_down, text_below}
use Rattle.path_map.proofs.names.text_below.Goals as goal

pub behind-requires : goal.behind-requires
behind-requires c =
    let p = c.args.path.now in
    let q = c.args.entry.now in
    (text_below p q (way_down p q c.requires.below c.requires.other) c.bytes.result.now c.names_len-before.result c.bytes.ensures.text c.names_len-before.ensures).within

pub returns : goal.returns
returns c =
    let p = c.args.path.now in
    let q = c.args.entry.now in
    let there = text_below p q (way_down p q c.requires.below c.requires.other) c.bytes.result.now c.names_len-before.result c.bytes.ensures.text c.names_len-before.ensures in
    record {
      text = there.behind ∙ ap (λ x. names_text p ++ 47 ∷ x) (sym c.behind.ensures);
      spelled = ap (λ t. path_of t 0) (sym c.bytes.ensures.text) ∙ c.bytes.ensures.read 0;
    }
