-- The tags that are read of each span, and how they are found in one walk.
use Rattle.std.specs.Prelude.{ℕ, List, codes, if◌then◌else◌, Option, None, option_and_then, Result, Ok}
use Rattle.std.specs.Str.{bytes_eq}
use Rattle.serde_json.specs.Data.{Data, Items, no_items, item, Members}
use Rattle.serde_json.specs.Find.{get_member}
use Rattle.trace_spans.specs.declared.tags.TagForm.{TagForm}
use Rattle.trace_spans.specs.declared.tags.TagForm.TheVariants.{Otlp, Jaeger}
use Rattle.trace_spans.specs.declared.fault.Fault.{Fault}
use Rattle.trace_spans.specs.declared.member.Member.{Member}
use Rattle.trace_spans.specs.declared.member.Member.TheVariants as member
use Rattle.trace_spans.specs.declared.tags.Tags.{Tags}
use Rattle.trace_spans.specs.Members.{then_on, member_of, item_in, items_in, text_in, unless_null}

-- the value of a tag
unfoldable pub tag_value : TagForm → Data → Option Data
tag_value Otlp tag = option_and_then (member_of member.StringValue) (member_of member.Value tag)
tag_value Jaeger tag = member_of member.Value tag

abbrev pub no_tags : Tags
no_tags = record {
  error = None;
  status_code = None;
  kind = None;
  error_type = None;
  exception_type = None;
  url_full = None;
  http_url = None;
  url_path = None;
  http_target = None;
  db_query_text = None;
  db_statement = None;
  rpc_method = None;
  server_address = None;
  net_peer_name = None;
  peer_service = None;
  messaging_destination_name = None;
}

-- the place of the tag with a key, after one more tag
abbrev pub tag_after : List ℕ → Option Data → List ℕ → Option Data → Option Data
tag_after key value wanted before = if bytes_eq key wanted then value else before

-- with one more tag: of those that have one key the last stays
abbrev pub with_tag : List ℕ → Option Data → Tags → Tags
with_tag key value tags = record {
  error = tag_after key value (codes "error") tags.error;
  status_code = tag_after key value (codes "otel.status_code") tags.status_code;
  kind = tag_after key value (codes "span.kind") tags.kind;
  error_type = tag_after key value (codes "error.type") tags.error_type;
  exception_type = tag_after key value (codes "exception.type") tags.exception_type;
  url_full = tag_after key value (codes "url.full") tags.url_full;
  http_url = tag_after key value (codes "http.url") tags.http_url;
  url_path = tag_after key value (codes "url.path") tags.url_path;
  http_target = tag_after key value (codes "http.target") tags.http_target;
  db_query_text = tag_after key value (codes "db.query.text") tags.db_query_text;
  db_statement = tag_after key value (codes "db.statement") tags.db_statement;
  rpc_method = tag_after key value (codes "rpc.method") tags.rpc_method;
  server_address = tag_after key value (codes "server.address") tags.server_address;
  net_peer_name = tag_after key value (codes "net.peer.name") tags.net_peer_name;
  peer_service = tag_after key value (codes "peer.service") tags.peer_service;
  messaging_destination_name = tag_after key value (codes "messaging.destination.name") tags.messaging_destination_name;
}

-- the tags with the one that an item of a list is
abbrev pub tags_with : TagForm → Member → Data → Tags → Result Tags Fault
tags_with form list tag tags =
    then_on (item_in list tag) (λ _.
    then_on (text_in member.Key tag) (λ key.
    Ok (with_tag key (tag_value form tag) tags)))

-- the tags of a list, after those before it
abbrev pub tags_of : TagForm → Member → Tags → Items → Result Tags Fault
tags_of form list tags no_items = Ok tags
tags_of form list tags (item tag others) = then_on (tags_with form list tag tags) (λ now. tags_of form list now others)

unfoldable pub tags_in : TagForm → Member → Data → Result Tags Fault
tags_in form list d = then_on (items_in list d) (tags_of form list no_tags)

abbrev pub tag_among : Members → List ℕ → Option Data
tag_among ms key = option_and_then unless_null (get_member key ms)

-- the tags that are members of an object
abbrev pub tags_among : Members → Tags
tags_among ms = record {
  error = tag_among ms (codes "error");
  status_code = tag_among ms (codes "otel.status_code");
  kind = tag_among ms (codes "span.kind");
  error_type = tag_among ms (codes "error.type");
  exception_type = tag_among ms (codes "exception.type");
  url_full = tag_among ms (codes "url.full");
  http_url = tag_among ms (codes "http.url");
  url_path = tag_among ms (codes "url.path");
  http_target = tag_among ms (codes "http.target");
  db_query_text = tag_among ms (codes "db.query.text");
  db_statement = tag_among ms (codes "db.statement");
  rpc_method = tag_among ms (codes "rpc.method");
  server_address = tag_among ms (codes "server.address");
  net_peer_name = tag_among ms (codes "net.peer.name");
  peer_service = tag_among ms (codes "peer.service");
  messaging_destination_name = tag_among ms (codes "messaging.destination.name");
}
