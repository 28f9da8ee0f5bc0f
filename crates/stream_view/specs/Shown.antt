-- What `view` shows: by its words an input is a stream, or the hexadecimal digits of one, and a stream has a line for its
-- header and for each record. This project's own.
use Rattle.std.specs.Prelude.{◌≡◌, ◌==◌, ◌||◌, ℕ, ◌≤◌, Bool, not, if◌then◌else◌, List, [], ◌∷◌, length, codes, Option, Some, None}
use Rattle.std.specs.List.{filter}
use Rattle.std.specs.Result.{result_ok}
use Rattle.std.specs.Str.{bytes_eq}
use Rattle.text_model.specs.Hex.{bytes_of_hex}
use Rattle.stream_model.specs.declared.fault.StreamFault.{StreamFault}
use Rattle.stream_model.specs.Record.{StreamRecord}
use Rattle.stream_model.specs.Spelling.{IsStream}
use Rattle.stream_model.specs.Faults.{IsFirstFault}
use Rattle.stream_model.specs.View.{view_text}
use Rattle.stream_view.specs.declared.form.Form.{Form}
use Rattle.stream_view.specs.declared.form.Form.TheVariants.{Raw, Hex}
use Rattle.program_io.specs.Ends.{input_limit}

-- the form that words ask for: exactly one of two words
abbrev pub form_of_word : List ℕ → Option Form
form_of_word word = if bytes_eq word (codes "raw") then Some Raw else (if bytes_eq word (codes "hex") then Some Hex else None)

abbrev pub form_of : List (List ℕ) → Option Form
form_of [] = None
form_of (word ∷ []) = form_of_word word
form_of (word ∷ other ∷ words) = None

-- a space or a line feed, which may stand between digits
abbrev pub is_blank : ℕ → Bool
is_blank b = b == 32 || b == 10

abbrev pub digits_of : List ℕ → List ℕ
digits_of text = filter (λ b. not (is_blank b)) text

-- the bytes that an input gives, if it is of its form
abbrev pub bytes_given : Form → List ℕ → Option (List ℕ)
bytes_given Raw input = Some input
bytes_given Hex input = result_ok (bytes_of_hex (digits_of input))

-- the words are a form, and these are the bytes that the input gives by it, within the limit
pub record Gives (words : List (List ℕ)) (input bytes : List ℕ) : Type 0 where
  pub form : Form
  pub asked : form_of words ≡ Some form
  pub short : length input ≤ input_limit
  pub given : bytes_given form input ≡ Some bytes

-- by these words the input is a stream, and these are its lines
pub record Shows (words : List (List ℕ)) (input lines : List ℕ) : Type 0 where
  pub bytes : List ℕ
  pub gives : Gives words input bytes
  pub records : List StreamRecord
  pub stream : IsStream bytes records
  pub text : lines ≡ view_text bytes records

-- by these words the input is asked to be digits, and is not
pub record IsNoHex (words : List (List ℕ)) (input : List ℕ) : Type 0 where
  pub asked : form_of words ≡ Some Hex
  pub short : length input ≤ input_limit
  pub refused : bytes_given Hex input ≡ None

-- by these words the input gives bytes that are no stream, with this first fault
pub record IsNoStream (words : List (List ℕ)) (input : List ℕ) (fault : StreamFault) : Type 0 where
  pub bytes : List ℕ
  pub gives : Gives words input bytes
  pub first : IsFirstFault bytes fault
