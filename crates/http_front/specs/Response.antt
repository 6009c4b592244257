-- The bytes of the one response of a connection (RFC 9112, section 4): a status line, three fields, an empty line and
-- the body, after which the connection is closed (RFC 9112, section 9.6).
use Rattle.std.specs.Prelude.{ℕ, List, [], ◌++◌, length, decimal, codes, unwrap_or}
use Rattle.http.specs.StatusCode.{reason_phrase}

-- the reason phrase of the status (RFC 9110, section 15)
abbrev pub phrase_of : ℕ → List ℕ
phrase_of status = unwrap_or (reason_phrase status) []

-- the status line, without its end
unfoldable pub status_line : ℕ → List ℕ
status_line status = (codes "HTTP/1.1 " ++ decimal status) ++ (codes " " ++ phrase_of status)

-- the ends of the lines, the three fields, the empty line and the body, whose length counts bytes
unfoldable pub fields_and_body : List ℕ → List ℕ
fields_and_body body =
    (codes "\r\nContent-Type: application/json;charset=utf-8\r\nContent-Length: " ++ decimal (length body))
    ++ (codes "\r\nConnection: close\r\n\r\n" ++ body)

-- the response with this status and this body
abbrev pub response_bytes : ℕ → List ℕ → List ℕ
response_bytes status body = status_line status ++ fields_and_body body
