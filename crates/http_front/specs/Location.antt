-- Which locations are this machine's, and their endpoints (URL Standard, sections 3 and 4).
use Rattle.std.specs.Prelude.{ℕ, Bool, ◌&&◌, ◌||◌, List, [], ◌++◌, length, nat_lt, codes, if◌then◌else◌}
use Rattle.std.specs.Prelude.{Option, Some, None, unwrap_or, Ok, Err}
use Rattle.std.specs.Str.{bytes_eq}
use Rattle.url.specs.Host.{host_text}
use Rattle.url.specs.Parser.{Parsed, parse_url}
use Rattle.url.specs.Parts.{Parts, host_or_empty}

-- a host, a port, and a request target
pub record Endpoint : Type 0 where
  pub host : List ℕ
  pub port : ℕ
  pub target : List ℕ

-- the endpoint of the code's tuple
abbrev pub endpoint_of_tuple : List ℕ × ℕ × List ℕ → Endpoint
endpoint_of_tuple endpoint = record { host = endpoint.0; port = endpoint.1; target = endpoint.2 }

-- the text of the host
abbrev pub host_of : Parts → List ℕ
host_of url = host_text (host_or_empty url)

-- whether the host is this machine's
abbrev pub is_own_host : List ℕ → Bool
is_own_host host = bytes_eq host (codes "127.0.0.1") || bytes_eq host (codes "localhost")

-- whether the URL is an `http` URL whose host is this machine's
abbrev pub is_loopback : Parts → Bool
is_loopback url = bytes_eq url.scheme (codes "http") && is_own_host (host_of url)

-- `?` and the query, where there is one
abbrev pub query_part : Option (List ℕ) → List ℕ
query_part None = []
query_part (Some query) = codes "?" ++ query

-- the endpoint of the URL; the port of `http` is 80
abbrev pub endpoint_of : Parts → Endpoint
endpoint_of url = record {
  host = host_of url;
  port = unwrap_or url.port 80;
  target = url.path ++ query_part url.query;
}

-- the endpoint of the URL, if its host is this machine
abbrev pub endpoint_of_url : Parts → Option Endpoint
endpoint_of_url url = if is_loopback url then Some (endpoint_of url) else None

-- the same for the result of the URL Standard's parser
abbrev pub endpoint_of_parsed : Parsed Parts → Option Endpoint
endpoint_of_parsed (Ok url) = endpoint_of_url url
endpoint_of_parsed (Err e) = None

-- the endpoint of the location, if it has at most 65,536 bytes and is a URL of this machine
abbrev pub loopback_endpoint : List ℕ → Option Endpoint
loopback_endpoint location =
    if nat_lt 65536 (length location) then None else endpoint_of_parsed (parse_url None location)
