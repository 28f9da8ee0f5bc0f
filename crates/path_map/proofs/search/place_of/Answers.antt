use Rattle.std.proofs.Common.{◌-◌, length, arith, sym, ◌∙◌, rules}
use Rattle.std.proofs.lemmas.Fn.{always_returns_same}
use Rattle.xs_model.specs.Paths.{Path, path_cmp}
use Rattle.path_map.proofs.Searched.{searched, gap_behind, found_at}
use Rattle.xs_model.proofs.PathLemmas.{path_total, path_exact}
use Rattle.path_map.proofs.search.place_of.Goals as goal

pub returns : goal.returns
returns g c =
    let facts = c.binary_search_by.ensures in
    let by_path = facts.position (λ (e : Path × g.row.T.Denot). path_cmp e.0 c.args.path.now) (always_returns_same _ _ _ (λ a r g called. search rules)) in
    searched path_cmp path_total path_exact c.args.entries.now c.args.path.now c.binary_search_by.result c.requires facts.bound by_path

pub returns-in-Less-clause-absent : goal.returns-in-Less-clause-absent
returns-in-Less-clause-absent g c =
    gap_behind path_cmp path_total path_exact c.args.entries.now c.args.path.now (length c.args.entries.now - 1) c.index-entries-count.result c.requires (omega arith) (sym c.cmp.ensures ∙ c.in-Less.is)

pub returns-in-Equal-clause-found : goal.returns-in-Equal-clause-found
returns-in-Equal-clause-found g c =
    found_at path_cmp path_total path_exact c.args.entries.now c.args.path.now (length c.args.entries.now - 1) c.index-entries-count.result (omega arith) (sym c.cmp.ensures ∙ c.in-Equal.is)
