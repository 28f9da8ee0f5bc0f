use Rattle.std.proofs.Common.{sym, arith}
use Rattle.stream_model.proofs.ReadIsSpelled.{is_stream}
use Rattle.stream_model.proofs.FirstFault.{is_first_fault}
use Rattle.mig_records.specs.ReaderView.{unread}
use Rattle.mig_records.proofs.UnreadLemmas.{all_unread, first_place, read_fault}
use Rattle.mig_records.proofs.reader.Reader.new.Goals as goal

pub invariant_of-result : goal.invariant_of-result
invariant_of-result c = first_place c.args.bytes.now c.in-None.ensures.is

pub returns-in-Some-clause-fault : goal.returns-in-Some-clause-fault
returns-in-Some-clause-fault c =
    is_first_fault c.args.bytes.now c.in-Some.fault (λ i. omega (arith, c.type_inv.bytes i)) (read_fault c.args.bytes.now c.in-Some.fault c.in-Some.ensures.is)

pub returns-in-Some-clause-exact : goal.returns-in-Some-clause-exact
returns-in-Some-clause-exact c = read_fault c.args.bytes.now c.in-Some.fault c.in-Some.ensures.is

pub returns-in-None-clause-ok : goal.returns-in-None-clause-ok
returns-in-None-clause-ok c =
    is_stream c.args.bytes.now (unread 16 c.args.bytes.now) (λ i. omega (arith, c.type_inv.bytes i)) (all_unread c.args.bytes.now c.in-None.ensures.is)

pub returns-in-None-clause-exact : goal.returns-in-None-clause-exact
returns-in-None-clause-exact c = all_unread c.args.bytes.now c.in-None.ensures.is
