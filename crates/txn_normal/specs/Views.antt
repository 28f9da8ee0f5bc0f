-- What is said in memory is that of the definitions.
use Rattle.mark_model.specs.Marks as mark
use Rattle.kept_model.specs.Said as model
use Rattle.txn_normal.specs.declared.said.Access.{Access}
use Rattle.txn_normal.specs.declared.said.Access.TheVariants as access
use Rattle.txn_normal.specs.declared.said.Fact.{Fact}
use Rattle.txn_normal.specs.declared.said.Fact.TheVariants as fact

abbrev pub access_view : Access → model.Access
access_view (access.Looked others) = model.Looked others
access_view (access.Gave others) = model.Gave others
access_view (access.Removed others) = model.Removed others
access_view access.Untouched = model.Untouched

abbrev pub said_view : Fact → model.Said
said_view (fact.Saw found) = model.Saw found
said_view (fact.Changed old) = model.Is (mark.Changed old)
said_view (fact.Wrote others node) = model.Is (mark.Wrote others node)
said_view (fact.Gone others) = model.Is (mark.Gone others)
said_view (fact.Kept old) = model.Is (mark.Kept old)
