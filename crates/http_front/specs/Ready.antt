-- What a server's buffers have room for.
use Rattle.std.specs.Prelude.{◌≡◌, ◌≤◌, length, vec_capacity}
use Rattle.http_front.specs.declared.framing.TheConstants.{MAX_HEAD, MOST_FIELDS}
use Rattle.http_front.specs.declared.response.TheConstants.{TEXT_ROOM}
use Rattle.http_front.specs.declared.serving.Server.{Server}

-- each has the room that a head or a response needs, where it is no list
pub record IsReady (server : Server) : Type 0 where
  pub spans : length server.spans.items ≡ MOST_FIELDS
  pub query : MAX_HEAD ≤ vec_capacity server.decoding.query
  pub body : TEXT_ROOM ≤ vec_capacity server.body
  pub text : TEXT_ROOM ≤ vec_capacity server.text
