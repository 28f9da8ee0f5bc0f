use Rattle.std.proofs.Common.{arith}
use Rattle.mig_records.proofs.Answered.{found, only, always, named, is_some_stream}
use Rattle.mig_records.proofs.stream.read_stream.Goals as goal

pub returns-clause-found : goal.returns-clause-found
returns-clause-found c = found c.args.bytes.now c.all_records.result (λ i. omega (arith, c.type_inv.bytes i)) c.all_records.ensures.exact

pub returns-clause-only : goal.returns-clause-only
returns-clause-only c = λ records h. only c.args.bytes.now c.all_records.result records h c.all_records.ensures.exact

pub returns-clause-always : goal.returns-clause-always
returns-clause-always c = λ fault h. always c.args.bytes.now c.all_records.result fault h c.all_records.ensures.exact

pub returns-clause-fault : goal.returns-clause-fault
returns-clause-fault c = named c.args.bytes.now c.all_records.result (λ i. omega (arith, c.type_inv.bytes i)) c.all_records.ensures.exact

pub returns-clause-no_memory : goal.returns-clause-no_memory
returns-clause-no_memory c = λ e. is_some_stream c.args.bytes.now (λ i. omega (arith, c.type_inv.bytes i)) (c.all_records.ensures.no_memory e)
