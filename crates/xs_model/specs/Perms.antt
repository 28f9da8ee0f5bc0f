-- Permission entries and rights (xenstore.txt, "Permissions"). That domain 0 has every right, and how an entry is
-- spelled on the wire, follow that document; stale entries are those of its "Special watches".
use Rattle.std.specs.Prelude.{ℕ, ◌==◌, Bool, true, false, not, ◌&&◌, ◌||◌, List, [], ◌∷◌, if◌then◌else◌, Option, Some, None, Result, Ok, Err, decimal}
use Rattle.text_model.specs.declared.NumFault.{NumFault}
use Rattle.text_model.specs.Decimal.{number_of}
use Rattle.xs_model.specs.declared.perm.Letter.{Letter}
use Rattle.xs_model.specs.declared.perm.Letter.TheVariants.{N, R, W, B}
use Rattle.xs_model.specs.declared.perm.Perm.{Perm}
use Rattle.xs_model.specs.declared.perm.Rights.{Rights}
use Rattle.xs_model.specs.declared.perm.PermFault.{PermFault}
use Rattle.xs_model.specs.declared.perm.PermFault.TheVariants.{BadLetter, BadNumber}

-- who asks: a domain, and the domain that it stands for besides, if any
pub record Caller : Type 0 where
  pub domid : ℕ
  pub target : Option ℕ

abbrev pub is_some_domid : Option ℕ → ℕ → Bool
is_some_domid None domid = false
is_some_domid (Some d) domid = d == domid

-- whether an entry names the caller or its target
abbrev pub names_caller : Caller → Perm → Bool
names_caller caller perm = not perm.stale && (perm.domid == caller.domid || is_some_domid caller.target perm.domid)

abbrev pub reads : Letter → Bool
reads N = false
reads R = true
reads W = false
reads B = true

abbrev pub writes : Letter → Bool
writes N = false
writes R = false
writes W = true
writes B = true

-- the letter of the first of these entries that names the caller, or else `default`
abbrev pub letter_for : Caller → Letter → List Perm → Letter
letter_for caller default [] = default
letter_for caller default (perm ∷ perms) = if names_caller caller perm then perm.letter else letter_for caller default perms

abbrev pub all_rights : Rights
all_rights = record { can_read = true; can_write = true; owner = true }

abbrev pub letter_rights : Letter → Rights
letter_rights letter = record { can_read = reads letter; can_write = writes letter; owner = false }

-- The rights of a domain other than 0: the first entry's domain owns the node, else the first later entry that names
-- the caller counts, else the first entry's letter
abbrev pub guest_rights : Caller → List Perm → Rights
guest_rights caller [] = letter_rights N
guest_rights caller (first ∷ later) =
    if names_caller caller first then all_rights else letter_rights (letter_for caller first.letter later)

-- what a caller may do with a node that has these entries
abbrev pub rights_of : Caller → List Perm → Rights
rights_of caller perms = if caller.domid == 0 then all_rights else guest_rights caller perms

-- the entries of a node that a domain creates under a parent with these: a guest owns what it creates
abbrev pub created_perms : ℕ → List Perm → List Perm
created_perms domid [] = []
created_perms domid (first ∷ later) =
    (if domid == 0 then first else record { letter = first.letter; stale = false; domid = domid }) ∷ later

-- the entry of `/` in a new store: nobody but domain 0 may read or write
abbrev pub new_root_perms : List Perm
new_root_perms = record { letter = N; stale = false; domid = 0 } ∷ []

-- ON THE WIRE: a letter and a decimal domid. The stale flag is not shown, and is clear in what is read.
abbrev pub letter_byte : Letter → ℕ
letter_byte N = 110
letter_byte R = 114
letter_byte W = 119
letter_byte B = 98

abbrev pub letter_of : ℕ → Option Letter
letter_of b =
    if b == 110 then Some N else (if b == 114 then Some R else (if b == 119 then Some W else (if b == 98 then Some B else None)))

abbrev pub perm_text : Perm → List ℕ
perm_text perm = letter_byte perm.letter ∷ decimal perm.domid

abbrev pub perm_with : Letter → Result ℕ NumFault → Result Perm PermFault
perm_with letter (Ok domid) = Ok (record { letter = letter; stale = false; domid = domid })
perm_with letter (Err fault) = Err BadNumber

abbrev pub perm_after : Option Letter → List ℕ → Result Perm PermFault
perm_after None digits = Err BadLetter
perm_after (Some letter) digits = perm_with letter (number_of 65535 digits)

-- the entry that a text is, or its first fault
abbrev pub perm_of : List ℕ → Result Perm PermFault
perm_of [] = Err BadLetter
perm_of (b ∷ digits) = perm_after (letter_of b) digits
