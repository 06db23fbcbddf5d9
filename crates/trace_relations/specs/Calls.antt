-- Which children are calls, and what tells calls from each other.
use Rattle.std.specs.Prelude.{ℕ, ◌&&◌, ◌||◌, List, [], ◌∷◌, Bool, true, false, codes, bytes_eq}
use Rattle.std.specs.Cmp.Lexicographic.{pointwise}
use Rattle.std.specs.List.{flat_map}
use Rattle.trace_spans.specs.declared.span.Kind.{Kind}
use Rattle.trace_spans.specs.declared.span.Kind.TheVariants.{Server, Client, Producer, Consumer, Other}
use Rattle.trace_spans.specs.declared.span.Span.{Span}
use Rattle.trace_spans.specs.declared.target.Aim.{Aim}
use Rattle.trace_spans.specs.declared.target.Attribute.{Attribute}
use Rattle.trace_spans.specs.declared.target.Attribute.TheVariants.{UrlFull, HttpUrl, UrlPath, HttpTarget, DbQueryText, DbStatement, RpcMethod, ServerAddress, NetPeerName, PeerService, MessagingDestinationName}

abbrev pub consumes : Kind → Bool
consumes Consumer = true
consumes Server = false
consumes Client = false
consumes Producer = false
consumes Other = false

abbrev pub produces : Kind → Bool
produces Producer = true
produces Server = false
produces Client = false
produces Consumer = false
produces Other = false

-- a message is on its way between a caller and a span
abbrev pub is_message : Span → Span → Bool
is_message caller span = produces caller.kind || consumes span.kind

-- the caller puts a message into a queue, from which the span takes it
abbrev pub is_queued : Span → Span → Bool
is_queued caller span = produces caller.kind && consumes span.kind

abbrev pub kind_text : Kind → List ℕ
kind_text Server = codes "server"
kind_text Client = codes "client"
kind_text Producer = codes "producer"
kind_text Consumer = codes "consumer"
kind_text Other = codes "other"

abbrev pub attribute_text : Attribute → List ℕ
attribute_text UrlFull = codes "url.full"
attribute_text HttpUrl = codes "http.url"
attribute_text UrlPath = codes "url.path"
attribute_text HttpTarget = codes "http.target"
attribute_text DbQueryText = codes "db.query.text"
attribute_text DbStatement = codes "db.statement"
attribute_text RpcMethod = codes "rpc.method"
attribute_text ServerAddress = codes "server.address"
attribute_text NetPeerName = codes "net.peer.name"
attribute_text PeerService = codes "peer.service"
attribute_text MessagingDestinationName = codes "messaging.destination.name"

abbrev pub aim_texts : Aim → List (List ℕ)
aim_texts aim = attribute_text aim.attribute ∷ aim.text ∷ []

-- what tells a call from others: its service, its name, its kind, and what it was to
abbrev pub call_texts : Span → List (List ℕ)
call_texts span = span.service ∷ span.name ∷ kind_text span.kind ∷ flat_map aim_texts span.target

abbrev pub same_call : Span → Span → Bool
same_call span other = pointwise bytes_eq (call_texts span) (call_texts other)
