use Rattle.std.proofs.Common.{◌≡◌, true, ℕ, List, nat_lt, sym, subst, ◌∙◌}
use Rattle.std.proofs.lemmas.List.{take_rest}
use Rattle.std.specs.FinMap.{is_sorted}
use Rattle.std.specs.List.{list_all}
use Rattle.std.specs.Ordering.{nat_cmp}
use Rattle.id_map.proofs.FreeLemmas.{above_positive, above_rising}
use Rattle.id_map.proofs.map.positive.Goals as goal

pub returns-clause-rising : goal.returns-clause-rising
returns-clause-rising g c =
    subst (λ (es : List (ℕ × g.row.T.Denot)). is_sorted nat_cmp es ≡ true)
    (sym (take_rest c.args.entries.now c.place_above.result ∙ c.place_above.ensures.above))
    (above_rising c.args.entries.now c.requires)

pub returns-clause-positive : goal.returns-clause-positive
returns-clause-positive g c =
    subst (λ (es : List (ℕ × g.row.T.Denot)). list_all (λ e. nat_lt 0 e.0) es ≡ true)
    (sym (take_rest c.args.entries.now c.place_above.result ∙ c.place_above.ensures.above))
    (above_positive c.args.entries.now)
