-- Made scripts: requests of domains 0 to 3 on the tree below `/bulk`, as the numbers of a generator choose them. This
-- project's own.
use Rattle.std.specs.Prelude.{ℕ, zero, suc, ◌+◌, ◌*◌, ◌/◌, ◌%◌, ◌^◌, ◌==◌, Bool, false, not, List, [], ◌∷◌, ◌++◌, replicate, slice_index_or, slice_set, nat_lt, if◌then◌else◌, codes, decimal}
use Rattle.text_model.specs.Hex.{hex}
use Rattle.xs_model.specs.declared.message.kind.TheConstants.{DIRECTORY, READ, GET_PERMS, WATCH, TRANSACTION_START, TRANSACTION_END, WRITE, MKDIR, RM, SET_PERMS}
use Rattle.xs_model.specs.Messages.{Message, message_bytes, string}
use Rattle.guest_script.specs.declared.generator.Choice.{Choice}
use Rattle.guest_script.specs.declared.generator.Choice.TheVariants.{Read, Write, Mkdir, Rm, Directory, GetPerms, Transaction, Watch}
use Rattle.guest_script.specs.declared.generator.Known.{Known}

-- NUMBERS. The one behind a number, and what is drawn from a number
unfoldable pub next_number : ℕ → ℕ
next_number x = (x * 6364136223846793005 + 1442695040888963407) % 2 ^ 64

unfoldable pub drawn_from : ℕ → ℕ
drawn_from x = x / 2 ^ 33

-- what is chosen by a number that was drawn: the domain, the kind of its request, and the path
abbrev pub domid_in : ℕ → ℕ
domid_in v = v % 4

abbrev pub choice_of : ℕ → Choice
choice_of n =
    if n == 0 then Read
    else (if n == 1 then Write
    else (if n == 2 then Mkdir
    else (if n == 3 then Rm
    else (if n == 4 then Directory
    else (if n == 5 then GetPerms
    else (if n == 6 then Transaction else Watch))))))

abbrev pub choice_in : ℕ → Choice
choice_in v = choice_of (v / 4 % 8)

-- `/J`, and nothing where J is 8
abbrev pub leaf_of : ℕ → List ℕ
leaf_of j = if j == 8 then [] else 47 ∷ decimal j

-- `/bulk/K`, and `/J` behind it
abbrev pub path_in : ℕ → List ℕ
path_in v = codes "/bulk/" ++ (decimal (v / 32 % 8) ++ leaf_of (v / 256 % 9))

-- REQUESTS. On the tree, with what follows the path's NUL; in the transaction that was left open, if there is one
abbrev pub transaction_of : Known → ℕ
transaction_of known = if known.is_open then 1 else 0

abbrev pub tree_request : ℕ → ℕ → ℕ → Known → List ℕ → Message
tree_request kind i v known rest =
    record { kind = kind; req_id = i; tx_id = transaction_of known; payload = path_in v ++ 0 ∷ rest }

-- one that starts a transaction, or commits the one that was left open
abbrev pub turn_request : ℕ → Known → Message
turn_request i known =
    if known.is_open then record { kind = TRANSACTION_END; req_id = i; tx_id = 1; payload = string (codes "T") }
    else record { kind = TRANSACTION_START; req_id = i; tx_id = 0; payload = string [] }

-- a watch, whose token is the operation's number, until there are four of the domain
abbrev pub may_watch : Known → Bool
may_watch known = nat_lt known.watches 4

abbrev pub watch_request : ℕ → ℕ → Known → Message
watch_request i v known =
    if may_watch known then record { kind = WATCH; req_id = i; tx_id = 0; payload = path_in v ++ 0 ∷ string (decimal i) }
    else tree_request READ i v known []

-- the request of the i-th operation, by what was drawn and what was made for the domain before
abbrev pub request_for : Choice → ℕ → ℕ → Known → Message
request_for Read i v known = tree_request READ i v known []
request_for Write i v known = tree_request WRITE i v known (decimal v)
request_for Mkdir i v known = tree_request MKDIR i v known []
request_for Rm i v known = tree_request RM i v known []
request_for Directory i v known = tree_request DIRECTORY i v known []
request_for GetPerms i v known = tree_request GET_PERMS i v known []
request_for Transaction i v known = turn_request i known
request_for Watch i v known = watch_request i v known

-- WHAT IS KNOWN of each domain: nothing was made
abbrev pub unknown : Known
unknown = record { is_open = false; watches = 0 }

abbrev pub known_after : Choice → Known → Known
known_after Read known = known
known_after Write known = known
known_after Mkdir known = known
known_after Rm known = known
known_after Directory known = known
known_after GetPerms known = known
known_after Transaction known = record { is_open = not known.is_open; watches = known.watches }
known_after Watch known = if may_watch known then record { is_open = known.is_open; watches = known.watches + 1 } else known

-- the generator: its number, and what it made for the domains 0 to 3
pub record Generator : Type 0 where
  pub number : ℕ
  pub known : List Known

abbrev pub begun : ℕ → Generator
begun seed = record { number = seed; known = replicate 4 unknown }

abbrev pub drawn : Generator → ℕ
drawn g = drawn_from (next_number g.number)

abbrev pub known_to : Generator → ℕ → Known
known_to g d = slice_index_or g.known d unknown

abbrev pub past : Generator → Generator
past g =
    let v = drawn g in
    record { number = next_number g.number; known = slice_set g.known (domid_in v) (known_after (choice_in v) (known_to g (domid_in v))) }

-- LINES. A request is sent and served; each 16th operation is followed by a handover
unfoldable pub sent_lines : ℕ → List ℕ → List ℕ
sent_lines d bytes =
    codes "send " ++ (decimal d ++ (32 ∷ (hex bytes ++ (10 ∷ (codes "serve " ++ (decimal d ++ 10 ∷ []))))))

abbrev pub request_lines : ℕ → Message → List ℕ
request_lines d request = sent_lines d (message_bytes request)

abbrev pub handover_lines : ℕ → List ℕ
handover_lines i = if i % 16 == 0 then codes "handover" ++ 10 ∷ [] else []

abbrev pub operation_lines : ℕ → Generator → List ℕ
operation_lines i g =
    let v = drawn g in
    request_lines (domid_in v) (request_for (choice_in v) i v (known_to g (domid_in v))) ++ handover_lines i

-- so many operations, counted on from the i-th
abbrev pub operations_lines : ℕ → ℕ → Generator → List ℕ
operations_lines zero i g = []
operations_lines (suc left) i g = operation_lines i g ++ operations_lines left (i + 1) (past g)

-- domain 0 makes `/bulk`, and lets every domain read and write there
abbrev pub make_bulk : Message
make_bulk = record { kind = MKDIR; req_id = 0; tx_id = 0; payload = string (codes "/bulk") }

abbrev pub open_bulk : Message
open_bulk = record { kind = SET_PERMS; req_id = 0; tx_id = 0; payload = string (codes "/bulk") ++ string (codes "b0") }

abbrev pub domain_lines : List ℕ
domain_lines = codes "domain 1 at 0" ++ (10 ∷ (codes "domain 2 at 0" ++ (10 ∷ (codes "domain 3 at 0" ++ 10 ∷ []))))

abbrev pub first_lines : List ℕ
first_lines = domain_lines ++ (request_lines 0 make_bulk ++ request_lines 0 open_bulk)

-- the script of a seed and a number of operations
abbrev pub made_script : ℕ → ℕ → List ℕ
made_script seed count = first_lines ++ operations_lines count 1 (begun seed)
