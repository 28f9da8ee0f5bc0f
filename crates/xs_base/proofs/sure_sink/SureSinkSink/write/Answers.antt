-- One more piece is one more part of what was written.
use Rattle.std.proofs.Common.{[], ◌∷◌, ◌++◌, length, ap, sym, ◌∙◌, append-nil, arith}
use Rattle.std.specs.List.{concat}
use Rattle.std.proofs.lemmas.List.{take_all}
use Rattle.std.proofs.lemmas.List.Folds.{concat-append}
use Rattle.xs_base.proofs.sure_sink.SureSinkSink.write.Goals as goal

pub returns-clause-bytes : goal.returns-clause-bytes
returns-clause-bytes c =
    let piece = c.args.piece.now in let before = c.args.self.now.told.strings in
    ap concat c.note.ensures ∙ concat-append before (piece ∷ [])
    ∙ ap (λ t. concat before ++ t) (append-nil piece ∙ sym (take_all (length piece) piece (omega arith)))
