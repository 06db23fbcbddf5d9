-- Events have no float, so their texts are told exactly.
use Rattle.std.proofs.Common.{◌≡◌, ℕ, ◌-◌, max, List, [], ◌∷◌, ◌++◌, Bool, true, false, ◌||◌, Ordering, Less, Equal, Greater, refl, rules}
use Rattle.std.specs.Prelude.{codes, string_bytes}
use Rattle.std.specs.List.{AllByRecursion}
use Rattle.std.specs.Ordering.{nat_cmp, match_ordering}
use Rattle.std.specs.Cmp.Lexicographic.{slice_cmp}
use Rattle.serde_json.specs.Data.{Data, Members, no_members, member, put}
use Rattle.serde_json.specs.Written.{has_float, members_have_float}
use Rattle.timeline_svg.specs.declared.row.Row.{Row}
use Rattle.timeline_svg.specs.declared.row.Run.{Run}
use Rattle.timeline_trace.specs.declared.flow.End.{End}
use Rattle.timeline_trace.specs.declared.labels.Track.{Track}
use Rattle.timeline_trace.specs.Deadlines.{deadline_event}
use Rattle.timeline_trace.specs.Flows.{arriving_event, leaving_event}
use Rattle.timeline_trace.specs.Json.{NamedValues, count, event_members, naming_event, object, text, with}
use Rattle.timeline_trace.specs.Rows.{about_object, ended_text, name_event, order_event, pending_event, process_event, queued_event, ran_event}

neither : (a b : Bool) → a ≡ false → b ≡ false → (a || b) ≡ false
neither false b h k = k
neither true b h k = h

parts : (a b : Bool) → (a || b) ≡ false → (a ≡ false) × (b ≡ false)
parts false b h = (refl, h)
parts true b h = absurd (search rules)

by_order : (o : Ordering) (a b c : Members) → members_have_float a ≡ false → members_have_float b ≡ false → members_have_float c ≡ false → members_have_float (match_ordering o a b c) ≡ false
by_order Less a b c x y z = x
by_order Equal a b c x y z = y
by_order Greater a b c x y z = z

put_exact : (name : List ℕ) (d : Data) (ms : Members) → has_float d ≡ false → members_have_float ms ≡ false → members_have_float (put name d ms) ≡ false
put_exact name d no_members h k = neither _ _ h k
put_exact name d (member other e ms) h k =
    by_order (slice_cmp nat_cmp name other) _ _ _ (neither _ _ h k) (neither _ _ h (parts _ _ k).1)
    (neither _ _ (parts _ _ k).0 (put_exact name d ms h (parts _ _ k).1))

with_exact : (named : NamedValues) (ms : Members) → members_have_float ms ≡ false → AllByRecursion (λ m. has_float m.1 ≡ false) named → members_have_float (with ms named) ≡ false
with_exact [] ms h k = h
with_exact (m ∷ others) ms h k = with_exact others _ (put_exact m.0 m.1 ms k.0 h) k.1

-- an object has none where its members have none
object_exact : (named : NamedValues) → AllByRecursion (λ m. has_float m.1 ≡ false) named → has_float (object named) ≡ false
object_exact named h = with_exact named no_members refl h

one_name : (name : List ℕ) → has_float (object ((codes "name", text name) ∷ [])) ≡ false
one_name name = object_exact ((codes "name", text name) ∷ []) (refl, tt)

naming_exact : (track : Track) (kind name : List ℕ) → has_float (naming_event track kind name) ≡ false
naming_exact track kind name =
    object_exact (event_members (codes "M") track kind ++ (codes "args", object ((codes "name", text name) ∷ [])) ∷ []) (refl, (refl, (refl, (refl, (one_name name, tt)))))

pub name_exact : (track : Track) (name : List ℕ) → has_float (name_event track name) ≡ false
name_exact track name = naming_exact track (codes "thread_name") name

pub process_exact : (process : ℕ) (name : List ℕ) → has_float (process_event process name) ≡ false
process_exact process name = naming_exact (record { process = process; row = 0 }) (codes "process_name") name

one_index : (track : Track) → has_float (object ((codes "sort_index", count track.row) ∷ [])) ≡ false
one_index track = object_exact ((codes "sort_index", count track.row) ∷ []) (refl, tt)

pub order_exact : (track : Track) → has_float (order_event track) ≡ false
order_exact track =
    object_exact (event_members (codes "M") track (codes "thread_sort_index") ++ (codes "args", object ((codes "sort_index", count track.row) ∷ [])) ∷ []) (refl, (refl, (refl, (refl, (one_index track, tt)))))

pub queued_exact : (track : Track) (run : Run) → has_float (queued_event track run) ≡ false
queued_exact track run =
    object_exact (event_members (codes "X") track (codes "queued") ++ (codes "cat", text (codes "queued")) ∷ (codes "ts", count run.triggered) ∷ (codes "dur", count (run.started - run.triggered)) ∷ [])
    (refl, (refl, (refl, (refl, (refl, (refl, (refl, tt)))))))

about_exact : (created : ℕ) (about : List ℕ) → has_float (about_object created about) ≡ false
about_exact created about = object_exact ((codes "created", count created) ∷ (codes "about", text about) ∷ []) (refl, (refl, tt))

pub ran_exact : (track : Track) (one : Row) (run : Run) → has_float (ran_event track one run) ≡ false
ran_exact track one run =
    object_exact (event_members (codes "X") track (string_bytes one.name) ++ (codes "cat", text (ended_text run.has_failed)) ∷ (codes "ts", count run.started) ∷ (codes "dur", count (run.ended - run.started)) ∷ (codes "args", about_object one.created (string_bytes one.about)) ∷ [])
    (refl, (refl, (refl, (refl, (refl, (refl, (refl, (about_exact one.created (string_bytes one.about), tt))))))))

pub pending_exact : (track : Track) (created : ℕ) (one : Row) → has_float (pending_event track created one) ≡ false
pending_exact track created one =
    object_exact (event_members (codes "i") track (string_bytes one.name) ++ (codes "cat", text (codes "pending")) ∷ (codes "ts", count created) ∷ (codes "s", text (codes "t")) ∷ (codes "args", about_object one.created (string_bytes one.about)) ∷ [])
    (refl, (refl, (refl, (refl, (refl, (refl, (refl, (about_exact one.created (string_bytes one.about), tt))))))))

pub leaving_exact : (number : ℕ) (end : End) → has_float (leaving_event number end) ≡ false
leaving_exact number end =
    object_exact (event_members (codes "s") end.track (codes "path") ++ (codes "cat", text (codes "path")) ∷ (codes "id", count number) ∷ (codes "ts", count (max (end.run.ended - 1) end.run.started)) ∷ [])
    (refl, (refl, (refl, (refl, (refl, (refl, (refl, tt)))))))

pub arriving_exact : (number : ℕ) (end : End) → has_float (arriving_event number end) ≡ false
arriving_exact number end =
    object_exact (event_members (codes "f") end.track (codes "path") ++ (codes "cat", text (codes "path")) ∷ (codes "id", count number) ∷ (codes "ts", count end.run.started) ∷ (codes "bp", text (codes "e")) ∷ [])
    (refl, (refl, (refl, (refl, (refl, (refl, (refl, (refl, tt))))))))

pub deadline_exact : (at : ℕ) → has_float (deadline_event at) ≡ false
deadline_exact at =
    object_exact (event_members (codes "i") (record { process = 1; row = 0 }) (codes "deadline") ++ (codes "cat", text (codes "deadline")) ∷ (codes "ts", count at) ∷ (codes "s", text (codes "g")) ∷ [])
    (refl, (refl, (refl, (refl, (refl, (refl, (refl, tt)))))))
