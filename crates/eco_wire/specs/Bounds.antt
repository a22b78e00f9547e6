-- What the limits say of a link's bytes.
use Rattle.std.specs.Prelude.{ℕ, ◌+◌, ◌<◌, List, length, IsSome, IsTrue, None}
use Rattle.eco_wire.specs.Heads.{unfinished, broken}
use Rattle.eco_wire.specs.Requests.{IsNext}
use Rattle.eco_wire.specs.Replies.{phrase_of, fits_allow}
use Rattle.eco_wire.specs.declared.limits.TheConstants.{HEAD_BYTES, BODY_BYTES}

-- bytes that hold no whole request yet are fewer than a head and a body may have
abbrev pub UnfinishedIsShort : Type 0
UnfinishedIsShort = (bytes : List ℕ) → IsNext bytes unfinished → length bytes < HEAD_BYTES + BODY_BYTES

-- a status that refuses bytes is one that a reply head has, without an Allow line
abbrev pub RefusalsHaveHeads : Type 0
RefusalsHaveHeads =
    (bytes : List ℕ) (status : ℕ) → IsNext bytes (broken status) → IsSome (phrase_of status) × IsTrue (fits_allow status None)
