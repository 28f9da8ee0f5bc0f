-- What holds of every made script.
use Rattle.std.specs.Prelude.{◌≡◌, ℕ, true, is_ok}
use Rattle.world_model.specs.Scripts.{script_of}
use Rattle.guest_script.specs.Made.{made_script}

-- it is a script
abbrev pub MadeScriptsRead : Type 0
MadeScriptsRead = (seed count : ℕ) → is_ok (script_of (made_script seed count)) ≡ true
