-- The requests of a link's bytes (RFC 9112, section 9.3), in whatever pieces they come.
use Rattle.std.specs.Prelude.{◌≡◌, ℕ, ◌-◌, ◌⊎◌, nat_le, List, [], ◌∷◌, ◌++◌, length, drop, Option, Some, None, MatchOption, if◌then◌else◌, ⊤}
use Rattle.std.specs.List.{concat}
use Rattle.eco_wire.specs.Heads.{Message, Reading, unfinished, whole, broken}
use Rattle.eco_wire.specs.Requests.{HasNoHead, IsNext}
use Rattle.eco_wire.specs.declared.limits.TheConstants.{LINK_REQUESTS}

-- the reading stands, whatever bytes follow
abbrev pub IsSettled : Reading → Type 0
IsSettled unfinished = ⊥
IsSettled (whole m) = ⊤
IsSettled (broken status) = ⊤

-- the reading is no request
abbrev pub IsNoRequest : Reading → Type 0
IsNoRequest unfinished = ⊤
IsNoRequest (whole m) = ⊥
IsNoRequest (broken status) = ⊤

-- how a stream ends: the bytes end, with so many of an unfinished request; the last request asks to close; what follows is
-- refused with a status; or the most requests of a link were read
pub data End : Type 0 where
  ended : ℕ → End
  closed : End
  refused : ℕ → End
  full : End

-- how a stream ends with this request, where so many can still be read; none where others may follow
abbrev pub end_after : ℕ → Message → Option End
end_after room m = if m.close then Some closed else if nat_le room 1 then Some full else None

-- the bytes begin with no request
abbrev pub Stops : List ℕ → End → Type 0
Stops bytes (ended left) = IsNext bytes unfinished × (left ≡ length bytes)
Stops bytes closed = ⊥
Stops bytes (refused status) = IsNext bytes (broken status)
Stops bytes full = ⊥

-- the requests from the front of the bytes, up to and with the first that asks to close, `room` at most, and how they end
abbrev pub IsStream : ℕ → List ℕ → List Message → End → Type 0
IsStream room bytes [] end = Stops bytes end
IsStream room bytes (m ∷ ms) end =
    IsNext bytes (whole m)
    × MatchOption (end_after room m) (IsStream (room - 1) (drop m.used bytes) ms end) (λ last. (ms ≡ []) × (end ≡ last))

-- the most requests of a link
abbrev pub link_requests : ℕ
link_requests = LINK_REQUESTS

-- a link that keeps `held` takes some of the pieces; then it keeps `kept`, and `rest` are the pieces to come
abbrev pub Takes : List ℕ → List (List ℕ) → List ℕ → List (List ℕ) → Type 0
Takes held [] kept rest = (kept ≡ held) × (rest ≡ [])
Takes held (piece ∷ pieces) kept rest =
    ((kept ≡ held) × (rest ≡ piece ∷ pieces)) ⊎ Takes (held ++ piece) pieces kept rest

-- a link stops: at the end of the pieces, or where what it keeps is refused
abbrev pub StopsAt : List ℕ → List (List ℕ) → End → Type 0
StopsAt kept rest (ended left) = (rest ≡ []) × Stops kept (ended left)
StopsAt kept rest closed = ⊥
StopsAt kept rest (refused status) = Stops kept (refused status)
StopsAt kept rest full = ⊥

-- what a link reads that keeps `held` and is given the pieces one after another, whenever it takes them
abbrev pub IsLink : ℕ → List ℕ → List (List ℕ) → List Message → End → Type 0
IsLink room held pieces [] end =
    (kept : List ℕ) × (rest : List (List ℕ)) × Takes held pieces kept rest × StopsAt kept rest end
IsLink room held pieces (m ∷ ms) end =
    (kept : List ℕ) × (rest : List (List ℕ)) × Takes held pieces kept rest × IsNext kept (whole m)
    × MatchOption (end_after room m) (IsLink (room - 1) (drop m.used kept) rest ms end) (λ last. (ms ≡ []) × (end ≡ last))

-- a status with which a head is given up
abbrev pub IsHeadStatus : ℕ → Type 0
IsHeadStatus status = (status ≡ 400) ⊎ (status ≡ 431)

-- two ends are the same; but a head that one reader gives up another may wait for, or give up with the other status
abbrev pub EndAlike : End → End → Type 0
EndAlike (ended a) (ended b) = a ≡ b
EndAlike (ended a) (refused t) = IsHeadStatus t
EndAlike (refused s) (ended b) = IsHeadStatus s
EndAlike (refused s) (refused t) = (s ≡ t) ⊎ (IsHeadStatus s × IsHeadStatus t)
EndAlike closed closed = ⊤
EndAlike full full = ⊤
EndAlike _ _ = ⊥

-- bytes that follow change no whole request and no refusal
abbrev pub ReadingsStay : Type 0
ReadingsStay =
    (bytes more : List ℕ) (reading : Reading) → IsSettled reading → IsNext bytes reading → IsNext (bytes ++ more) reading

-- bytes have one reading; only where they begin with no whole head may one prefix be refused that another reader waits for
abbrev pub ReadingsAreOne : Type 0
ReadingsAreOne =
    (bytes : List ℕ) (a b : Reading) → IsNext bytes a → IsNext bytes b
    → (a ≡ b) ⊎ (HasNoHead bytes × IsNoRequest a × IsNoRequest b)

-- a link reads the stream of all its bytes
abbrev pub LinksReadStreams : Type 0
LinksReadStreams =
    (room : ℕ) (pieces : List (List ℕ)) (ms : List Message) (end : End)
    → IsLink room [] pieces ms end → IsStream room (concat pieces) ms end

-- two links that are given the same bytes, in whatever pieces, read the same requests
abbrev pub PiecesDontMatter : Type 0
PiecesDontMatter =
    (room : ℕ) (these those : List (List ℕ)) (ms ns : List Message) (a b : End)
    → concat these ≡ concat those → IsLink room [] these ms a → IsLink room [] those ns b
    → (ms ≡ ns) × EndAlike a b
