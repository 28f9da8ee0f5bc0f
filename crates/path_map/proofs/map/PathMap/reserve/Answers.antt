use Rattle.std.proofs.Common.{◌≡◌, ◌+◌, ◌/◌, ◌≤◌, min, max, length, ap, subst, arith}
use Rattle.path_map.specs.Map.{Map}
use Rattle.path_map.proofs.Halved.{enough, most}
use Rattle.path_map.proofs.map.PathMap.reserve.Goals as goal

pub returns-in_err-fill-clause-kept : goal.returns-in_err-fill-clause-kept
returns-in_err-fill-clause-kept g c =
    let cs = c.self.inside.chunks.items in
    let e : c.min-wanted.result ≡ min c.args.items (max 1 (length cs) + c.args.items / 32 + 1) =
    omega (arith, c.min-wanted.ensures, c.max.ensures, c.len.ensures, c.self.inside.chunks.ok.0) in
    let old = ap (λ (m : Map g.row.T.Denot). m.kept) c.self.view_is in
    let few = most cs c.args.self.now.entries c.args.items c.min-wanted.result c.self.invariant.laid_out.filled (ap (λ (m : Map g.row.T.Denot). m.entries) c.self.view_is) e in
    omega (arith, few, c.in_err-fill.ensures.bound, old)

pub returns-in_ok-fill-clause-ok : goal.returns-in_ok-fill-clause-ok
returns-in_ok-fill-clause-ok g c =
    let e : c.min-wanted.result ≡ min c.args.items (max 1 (length c.reserve.new.self.items) + c.args.items / 32 + 1) =
    omega (arith, c.min-wanted.ensures, c.max.ensures, c.len.ensures, ap length c.in_ok-reserve.ensures.items, c.self.inside.chunks.ok.0) in
    enough c.reserve.new.self.items c.args.items c.min-wanted.result c.fill.new.spare.len e c.in_ok-fill.ensures.ok

pub returns-in_ok-fill-clause-kept : goal.returns-in_ok-fill-clause-kept
returns-in_ok-fill-clause-kept g c =
    let cs = c.self.inside.chunks.items in
    let e : c.min-wanted.result ≡ min c.args.items (max 1 (length cs) + c.args.items / 32 + 1) =
    omega (arith, c.min-wanted.ensures, c.max.ensures, c.len.ensures, c.self.inside.chunks.ok.0) in
    let old = ap (λ (m : Map g.row.T.Denot). m.kept) c.self.view_is in
    let few = most cs c.args.self.now.entries c.args.items c.min-wanted.result c.self.invariant.laid_out.filled (ap (λ (m : Map g.row.T.Denot). m.entries) c.self.view_is) e in
    omega (arith, few, c.in_ok-fill.ensures.bound, old)

pub returns-else-len-wanted-clause-ok : goal.returns-else-len-wanted-clause-ok
returns-else-len-wanted-clause-ok g c =
    let e : c.min-wanted.result ≡ min c.args.items (max 1 (length c.self.inside.chunks.items) + c.args.items / 32 + 1) =
    omega (arith, c.min-wanted.ensures, c.max.ensures, c.len.ensures, c.self.inside.chunks.ok.0) in
    let there : c.min-wanted.result ≤ c.self.inside.spare.len = omega (arith, c.if-len-wanted.false, c.len-2.ensures) in
    subst (λ n. c.args.items ≤ n) (ap (λ (m : Map g.row.T.Denot). m.spare) c.self.view_is) (enough c.self.inside.chunks.items c.args.items c.min-wanted.result c.self.inside.spare.len e there)
