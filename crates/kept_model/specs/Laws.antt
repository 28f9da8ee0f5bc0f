-- The laws of kept states, as statements. Each is proved of a function in `src/laws.rt`.
use Rattle.std.specs.Prelude.{◌≡◌, ℕ, ◌<◌, ◌≤◌, List, length, Ok}
use Rattle.std.specs.List.{AllByRecursion}
use Rattle.machine_model.specs.Machine.{Item, Asked, Lost}
use Rattle.mark_model.specs.Stores.{KeptStore, kept_step}
use Rattle.stream_model.specs.Spelling.{AreWritable}
use Rattle.kept_model.specs.States.{State}
use Rattle.kept_model.specs.Sound.{IsSound, IsSoundStore}
use Rattle.kept_model.specs.Normal.{state_of_bytes}
use Rattle.kept_model.specs.Images.{records_of, image}

abbrev pub AreBytes : List ℕ → Type 0
AreBytes bytes = AllByRecursion (λ b. b < 256) bytes

-- LOADING. What bytes tell is sound
abbrev pub WhatLoadsIsSound : Type 0
WhatLoadsIsSound = (bytes : List ℕ) (s : State) → AreBytes bytes → state_of_bytes bytes ≡ Ok s → IsSound s

-- SAVING. A sound state has records that can be written
abbrev pub SoundIsWritable : Type 0
SoundIsWritable = (s : State) → IsSound s → AreWritable (records_of s)

-- and its image tells that state and no other
abbrev pub ImagesLoad : Type 0
ImagesLoad = (s : State) → IsSound s → state_of_bytes (image s) ≡ Ok s

-- STEPS. A request is one message, and the other items fit as they are
abbrev pub ItemFits : Item → Type 0
ItemFits (Asked c bytes) = length bytes ≤ 4112
ItemFits (Lost c) = Unit {0}

abbrev pub StepsKeepStoresSound : Type 0
StepsKeepStoresSound =
    (served : List ℕ) (k : KeptStore) (item : Item) → ItemFits item → IsSoundStore k → IsSoundStore (kept_step served k item).0
