use Rattle.std.proofs.Common.{◌≡◌, ◌++◌, ap, subst, sym, ◌∙◌}
use Rattle.std.specs.Prelude.{codes}
use Rattle.std.specs.Fmt.{decimal}
use Rattle.xs_model.specs.Paths.{absolute_path}
use Rattle.xs_path.specs.Texts.{IsPathText}
use Rattle.xs_path.proofs.Home.{home_text, home_text-is, home_text-append, absolute_path-home_text}
use Rattle.xs_path.proofs.text.at_home.Goals as goal

whole : (c : goal.In_ok-extend_from_slice) → c.extend_from_slice.new.self.items ≡ home_text c.args.domid c.args.bytes.now
whole c =
    let written = ap (λ v. v.items) c.into_bytes-text.ensures.value ∙ c.in_ok-write.ensures.bytes ∙ ap (λ l. l ++ (codes "/local/domain/" ++ (decimal c.args.domid ++ codes "/"))) c.in_ok-text.ensures.bytes in
    c.in_ok-extend_from_slice.ensures.items ∙ home_text-append c.into_bytes-text.result.items c.args.domid c.args.bytes.now written

pub returns-clause-path : goal.returns-clause-path
returns-clause-path c =
    ap absolute_path (whole c) ∙ absolute_path-home_text c.args.domid c.args.bytes.now c.requires.domid c.requires.relative c.requires.faultless

pub returns-clause-text : goal.returns-clause-text
returns-clause-text c =
    subst IsPathText (sym (whole c)) (home_text-is c.args.domid c.args.bytes.now c.requires.domid c.requires.relative c.requires.faultless)
