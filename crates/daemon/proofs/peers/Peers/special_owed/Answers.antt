use Rattle.std.proofs.Common.{sym, subst}
use Rattle.watchers.specs.Watched.{AreOwn}
use Rattle.daemon.specs.Peers.{Connected}
use Rattle.daemon.proofs.peers.Peers.special_owed.Goals as goal

pub special_owed-requires : goal.special_owed-requires
special_owed-requires c = subst (λ (p : Connected). AreOwn p.specs p.watched) (sym c.self.view_is) c.requires.sound.own
