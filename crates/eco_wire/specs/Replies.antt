-- The head of a reply (RFC 9110, section 15; RFC 9112, sections 4 and 9.6); phrases and layout are the desk's own.
use Rattle.std.specs.Prelude.{ℕ, Bool, true, false, not, ◌&&◌, ◌||◌, ◌==◌, List, [], ◌++◌, Option, Some, None, unwrap_or, codes, decimal, bytes_eq, if◌then◌else◌}
use Rattle.httparse.specs.Ascii.{crlf_bytes}
use Rattle.eco_wire.specs.declared.reply.BodyKind.{BodyKind}
use Rattle.eco_wire.specs.declared.reply.BodyKind.TheVariants.{Json, Plain}

-- the phrase of each status that a reply has
abbrev pub phrase_of : ℕ → Option (List ℕ)
phrase_of status =
    if status == 200 then Some (codes "OK")
    else if status == 400 then Some (codes "Bad Request")
    else if status == 404 then Some (codes "Not Found")
    else if status == 405 then Some (codes "Method Not Allowed")
    else if status == 409 then Some (codes "Conflict")
    else if status == 411 then Some (codes "Length Required")
    else if status == 413 then Some (codes "Content Too Large")
    else if status == 422 then Some (codes "Unprocessable Content")
    else if status == 431 then Some (codes "Request Header Fields Too Large")
    else if status == 500 then Some (codes "Internal Server Error")
    else if status == 501 then Some (codes "Not Implemented")
    else if status == 503 then Some (codes "Service Unavailable")
    else None

-- the media type of a body
abbrev pub media_of : BodyKind → List ℕ
media_of Json = codes "application/json"
media_of Plain = codes "text/plain"

-- the allowed method stands with status 405, and with no other
abbrev pub fits_allow : ℕ → Option (List ℕ) → Bool
fits_allow status None = not (status == 405)
fits_allow status (Some method) = status == 405 && (bytes_eq method (codes "GET") || bytes_eq method (codes "POST"))

-- the lines that each reply has, of a status with its phrase, a media type and a length
abbrev pub common_lines_of : ℕ → List ℕ → List ℕ → ℕ → List ℕ
common_lines_of status phrase media len =
    codes "HTTP/1.1 " ++ (decimal status ++ (codes " " ++ (phrase ++ (crlf_bytes
    ++ (codes "Content-Type: " ++ (media ++ (crlf_bytes
    ++ (codes "Content-Length: " ++ (decimal len ++ crlf_bytes)))))))))

abbrev pub allow_line : Option (List ℕ) → List ℕ
allow_line None = []
allow_line (Some method) = codes "Allow: " ++ method ++ crlf_bytes

abbrev pub close_line : Bool → List ℕ
close_line false = []
close_line true = codes "Connection: close" ++ crlf_bytes

-- the bytes of a reply's head
abbrev pub reply_head_of : ℕ → BodyKind → ℕ → Option (List ℕ) → Bool → List ℕ
reply_head_of status kind len allow close =
    common_lines_of status (unwrap_or (phrase_of status) []) (media_of kind) len ++ allow_line allow ++ close_line close ++ crlf_bytes
