use Rattle.std.proofs.Common.{sym, ap, ◌∙◌}
use Rattle.wire_codec.specs.Codec.{operation_of}
use Rattle.xs_model.specs.Commands.{Answer}
use Rattle.xs_model.proofs.ShortLemmas.{reply_short}
use Rattle.tree_ops.proofs.RunLemmas.{answer_fits, short_if}
use Rattle.tree_ops.proofs.commands.run.Goals as goal

pub make-requires : goal.make-requires
make-requires g c =
    answer_fits (g.V.View.nodes c.args.view.now) c.in_ok-touched.ensures.tree c.in_ok-answer.answer.edits (operation_of c.args.command.now.op) (record { domid = c.args.domid; target = c.args.target }) c.args.command.now.path c.args.number c.requires
    (ap (λ (a : Answer). a.edits) c.in_ok-answer.ensures)

pub returns-clause-short : goal.returns-clause-short
returns-clause-short g c =
    short_if c.in_ok-answer.answer.reply (λ payload is.
    reply_short (operation_of c.args.command.now.op) c.args.command.now.path (record { domid = c.args.domid; target = c.args.target }) c.args.number (g.V.View.nodes c.args.view.now) payload
    (sym (ap (λ (a : Answer). a.reply) c.in_ok-answer.ensures) ∙ is))
