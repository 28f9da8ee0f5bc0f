-- Answers before they are carried out, as the definitions have them. This project's own.
use Rattle.std.specs.Prelude.{ℕ, List, [], ◌∷◌, length, nat_lt, if◌then◌else◌, map, Option, Some, None}
use Rattle.tree_ops.specs.declared.answer.Edits.{Edits}
use Rattle.tree_ops.specs.declared.answer.Edits.TheVariants.{Sets, Removals}
use Rattle.tree_ops.specs.declared.answer.Answer.{Answer}
use Rattle.xs_model.specs.declared.message.WireErr.{WireErr}
use Rattle.xs_model.specs.declared.message.WireErr.TheVariants.{Einval}
use Rattle.xs_model.specs.Paths.{Path}
use Rattle.xs_model.specs.Trees.{Node, Tree, Edit}
use Rattle.xs_model.specs.Requests.{Operation}
use Rattle.xs_model.specs.Commands.{Sight, seen_names, sized, refusal, removals, part_payload}
use Rattle.xs_model.specs.Commands as model

-- each path gets its node
abbrev pub sets : List (Path × Node) → List Edit
sets entries = map (λ e. (e.0, Some e.1)) entries

abbrev pub edits_of : Edits → List Edit
edits_of (Sets entries) = sets entries.items
edits_of (Removals paths) = removals paths.items

abbrev pub answer_of : Answer → model.Answer
answer_of a = record { reply = a.reply; edits = edits_of a.edits }

-- the sight of a path from this node, which is the nearest
abbrev pub seen : Operation → ℕ → Tree → Path → Path → Node → List Path → Sight
seen operation number tree path nearest node absent =
    record { nearest = nearest; node = node; absent = absent; names = seen_names operation tree path; number = number }

-- data of a node, or what refuses it
abbrev pub look_answer : Option WireErr → List ℕ → model.Answer
look_answer None payload = record { reply = sized payload; edits = [] }
look_answer (Some error) payload = refusal error

-- a part of a list, or what refuses it
abbrev pub part_given : Option WireErr → ℕ → ℕ → List ℕ → model.Answer
part_given None number offset list =
    if nat_lt (length list) offset then refusal Einval else record { reply = sized (part_payload number offset list); edits = [] }
part_given (Some error) number offset list = refusal error

-- the value of a new node on a way down: that of the last one is given
abbrev pub value_before : List ℕ → List Path → List ℕ
value_before value [] = value
value_before value (p ∷ ps) = []
