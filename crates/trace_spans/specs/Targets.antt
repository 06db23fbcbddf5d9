-- What a span called, by its tags.
use Rattle.std.specs.Prelude.{ℕ, List, [], ◌∷◌, ◌++◌, Option, Some, None, option_and_then}
use Rattle.serde_json.specs.Data.{Data}
use Rattle.serde_json.specs.Find.{as_str}
use Rattle.trace_spans.specs.declared.tags.Tags.{Tags}
use Rattle.trace_spans.specs.declared.target.Aim.{Aim}
use Rattle.trace_spans.specs.declared.target.Attribute.{Attribute}
use Rattle.trace_spans.specs.declared.target.Attribute.TheVariants.{UrlFull, HttpUrl, UrlPath, HttpTarget, DbQueryText, DbStatement, RpcMethod, ServerAddress, NetPeerName, PeerService, MessagingDestinationName}

abbrev pub aim_of : Attribute → Option (List ℕ) → List Aim
aim_of attribute None = []
aim_of attribute (Some text) = record { attribute = attribute; text = text } ∷ []

-- an attribute that is a text
abbrev pub aims_of : Attribute → Option Data → List Aim
aims_of attribute value = aim_of attribute (option_and_then as_str value)

-- those of the eleven attributes that a span has, in order
unfoldable pub target_of : Tags → List Aim
target_of tags =
    aims_of UrlFull tags.url_full
    ++ aims_of HttpUrl tags.http_url
    ++ aims_of UrlPath tags.url_path
    ++ aims_of HttpTarget tags.http_target
    ++ aims_of DbQueryText tags.db_query_text
    ++ aims_of DbStatement tags.db_statement
    ++ aims_of RpcMethod tags.rpc_method
    ++ aims_of ServerAddress tags.server_address
    ++ aims_of NetPeerName tags.net_peer_name
    ++ aims_of PeerService tags.peer_service
    ++ aims_of MessagingDestinationName tags.messaging_destination_name
