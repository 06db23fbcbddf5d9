-- An answer as text: a line for the replies, for each group, for what was tried, for the slowest replies, and for each failure.
use Rattle.std.specs.Prelude.{ℕ, List, [], ◌++◌, Option, Some, None, codes}
use Rattle.std.specs.Fmt.{decimal}
use Rattle.std.specs.List.{flat_map}
use Rattle.text_io.specs.Writes.{line_end}
use Rattle.fleet_answer.specs.declared.answer.Answer.{Answer}
use Rattle.fleet_answer.specs.declared.rows.FailureRow.{FailureRow}
use Rattle.fleet_answer.specs.declared.rows.GroupRow.{GroupRow}
use Rattle.fleet_answer.specs.declared.rows.ReplyRow.{ReplyRow}
use Rattle.fleet_answer.specs.declared.rows.TryRow.{TryRow}
use Rattle.fleet_answer.specs.declared.shares.Share.{Share}
use Rattle.fleet_answer.specs.declared.shares.Shares.{Shares}
use Rattle.fleet_answer.specs.declared.shares.Slowest.{Slowest}
use Rattle.fleet_answer.specs.declared.times.Times.{Times}
use Rattle.fleet_answer.specs.Names.{name_text}

-- what is said, and how many
abbrev pub told : List ℕ → ℕ → List ℕ
told said number = said ++ decimal number

abbrev pub times_text : Times → List ℕ
times_text times = told (codes " p50 ") times.p50 ++ told (codes " p90 ") times.p90 ++ told (codes " p99 ") times.p99 ++ told (codes " max ") times.longest

abbrev pub reply_text : ReplyRow → List ℕ
reply_text row = told (codes "replies ") row.replies ++ told (codes " failed ") row.failed ++ times_text row.times ++ line_end

-- a number, or a dash where there is none
abbrev pub maybe_text : Option ℕ → List ℕ
maybe_text None = codes "-"
maybe_text (Some number) = decimal number

-- where a group is
abbrev pub place_text : GroupRow → List ℕ
place_text row = told (codes " traces ") row.traces ++ told (codes " spans ") row.spans ++ told (codes " on-path ") row.on_path

-- what it did on paths
abbrev pub path_text : GroupRow → List ℕ
path_text row = told (codes " ran ") row.ran ++ told (codes " queued ") row.queued

-- how the replies would come without it
abbrev pub gain_text : GroupRow → List ℕ
gain_text row = told (codes " sooner ") row.sooner ++ codes " p99 " ++ maybe_text row.p99

abbrev pub group_text : GroupRow → List ℕ
group_text row = name_text row.name ++ place_text row ++ path_text row ++ gain_text row ++ line_end

-- how the replies would have come; none, where no reply was tried
abbrev pub tried_text : Option ReplyRow → List ℕ
tried_text None = codes "replies 0" ++ line_end
tried_text (Some row) = reply_text row

abbrev pub try_text : TryRow → List ℕ
try_text row = codes "try " ++ name_text row.change ++ codes " " ++ tried_text row.replies

abbrev pub share_text : List ℕ → Share → List ℕ
share_text said share = told said share.ran ++ told (codes " queued ") share.queued

-- what a group came to for each of the slowest replies, and of all; nothing where that was not asked for
abbrev pub shares_text : List ℕ → Option Shares → List ℕ
shares_text name None = []
shares_text name (Some shares) = name_text name ++ share_text (codes " slowest ran ") shares.slowest ++ share_text (codes " all ran ") shares.all ++ line_end

abbrev pub slow_text : GroupRow → List ℕ
slow_text row = shares_text row.name row.shares

abbrev pub slowest_text : Option Slowest → List ℕ
slowest_text None = []
slowest_text (Some slowest) = told (codes "slowest ") slowest.percent ++ told (codes " replies ") slowest.replies ++ line_end

abbrev pub failure_text : FailureRow → List ℕ
failure_text row = name_text row.exception ++ codes " from " ++ name_text row.group ++ told (codes " replies ") row.replies ++ line_end

-- what each group came to
abbrev pub groups_text : List GroupRow → List ℕ
groups_text rows = flat_map group_text rows

abbrev pub tries_text : List TryRow → List ℕ
tries_text rows = flat_map try_text rows

-- what each did on the paths of the slowest replies
abbrev pub slow_texts : List GroupRow → List ℕ
slow_texts rows = flat_map slow_text rows

abbrev pub failures_text : List FailureRow → List ℕ
failures_text rows = flat_map failure_text rows

abbrev pub answer_text : Answer → List ℕ
answer_text answer =
    reply_text answer.replies
    ++ groups_text answer.groups.items
    ++ tries_text answer.tries.items
    ++ slowest_text answer.slowest
    ++ slow_texts answer.groups.items
    ++ failures_text answer.failures.items
