-- Whoever unfolds `computes` unfolds the whole machine. (Written by tools/computes.py.)
use Rattle.asyncio.specs.Kinds.{kind}
use Rattle.asyncio.specs.Parts.{awaiter_of, call_of, first_of, count_of, open_of}
use Rattle.rows.specs.Tables.{task_at, task_put, object_at, object_put, place_at, place_put, header_at, header_put}
use Rattle.rows.specs.Canonical.{same_words, task_canonical, object_canonical, place_canonical, header_canonical}
use Rattle.queue.specs.Queue.{entries, empty_queue, front_of, push_back, shift, drop_entry, drop_place, find_from, find_task, pop_front, remove, position_from, stood_at, removed_count, swapped, put_in_order, ordered, order_from, push_in_order, position, without, retain, occurrences, NoneBelow, Ascending}
use Rattle.machine.specs.Tests.{◌and◌, implies, all_below, sum_below, is_in}
use Rattle.machine.specs.Store.{task, put_task, header, put_header, object, put_object, place, put_place, put_places, put_queue, add_log, forget, restate, set_state, set_moment, set_next, set_calls, add_object, absent, empty, fresh, view}
use Rattle.machine.specs.Scheduler.{blocked_on, is_some, as_pending, as_awaited, push_ready, remove_from_ready_queue, make_ready, first_from, is_call, pending_external_in, pending_external, insert, calls_below, pending_calls_in, pending_call_ids, live, live_in, live_count, is_task_of, task_of_in, task_of, spawn_as, spawn_unless, spawn, remove_task, cancel_one, reach_if, reach, remove_blocked, still_live, visit_by, visit, visit_place, visit_open, walk_gather, walk_next, walk, walk_from, cancel_task, remove_from, cleanup}
use Rattle.machine.specs.Delivery.{nobody_woken, deliver_to_task, fill_one, fill_from, resolve_left, resolve_awaited, resolve_child, fail_awaited, fail_gather, climb, awaited_in, awaited_count, send_value, climb_value, deliver_awaiter_success, send_error, climb_error, deliver_awaiter_failure, value_or, resolve_pending, fail_pending, settle_pending, settle_found, resolve_future, fail_future}
use Rattle.machine.specs.Commit.{await_pending, await_external, polled_spawn, item_coroutine, item_gather, item_object, open_from, item, open_place, fill_place, put_polled, put_item, step_item, step_items, step_gather_commit, with_state, set_gather, open_gather_commit, settle_as, settle_gather_commit, resume_in, resume_as, resume_after_child, unwind, turn, commit_loop, pending_in, pending_count, commit_gather_tree}
use Rattle.machine.specs.Events.{run, yield, new_function, resume_next, resume_after_task_exit, handle_task_failure, start_by, start_task, activate_state, activate_within, activate, stays, go_on, await_coroutine, await_external_future, await_gather, await_object, exec_get_awaitable, completed, handle_task_completion, apply_result, apply_future_results, wake_in_order, make_coroutine, make_pending, make_settled, put_items, make_gather}
use Rattle.machine.specs.Sound.{words_in_range, places_below, counts_in_range, awaiter_in_range, open_in_range, object_in_range, is_slot, task_in_range, numbers_in_range, committed_places, spawned_in_range, items_below, items_lower, value_known, option_known, object_values, state_values, lists_completed, entry_ready, queue_ready, is_ended, same_call, call_new, calls_distinct, is_task_of_at, sole_task, one_task, is_task, blocked_awaits, blocked_at, awaiter_blocked, blocked_match, is_filled, rest_filled, gather_filled, object_filled, places_filled, source_open, slot_open, slots_open, runs_now, runner_in_range, one_runs, sound_view, sound}
use Rattle.machine.specs.Machine.{is_run, in_running, in_waiting, in_both, unmade, any_of, result_unknown, bad_result, full, no_number, refusals, first_refusal, refusal, slot_value, show_places, shown, is_empty, can_await_eagerly, switched, answer_await, end_main, task_completes, task_fails, entries_lost, runner, repeat_wait, resume_with_resolved_futures, accept, decide, step, after, answers}

unfoldable pub computes : Unit {0}
unfolding kind awaiter_of call_of first_of count_of open_of task_at task_put object_at object_put place_at place_put header_at header_put same_words task_canonical object_canonical place_canonical header_canonical entries empty_queue front_of push_back shift drop_entry drop_place find_from find_task pop_front remove position_from stood_at removed_count swapped put_in_order ordered order_from push_in_order position without retain occurrences NoneBelow Ascending ◌and◌ implies all_below sum_below is_in task put_task header put_header object put_object place put_place put_places put_queue add_log forget restate set_state set_moment set_next set_calls add_object absent empty fresh view blocked_on is_some as_pending as_awaited push_ready remove_from_ready_queue make_ready first_from is_call pending_external_in pending_external insert calls_below pending_calls_in pending_call_ids live live_in live_count is_task_of task_of_in task_of spawn_as spawn_unless spawn remove_task cancel_one reach_if reach remove_blocked still_live visit_by visit visit_place visit_open walk_gather walk_next walk walk_from cancel_task remove_from cleanup nobody_woken deliver_to_task fill_one fill_from resolve_left resolve_awaited resolve_child fail_awaited fail_gather climb awaited_in awaited_count send_value climb_value deliver_awaiter_success send_error climb_error deliver_awaiter_failure value_or resolve_pending fail_pending settle_pending settle_found resolve_future fail_future await_pending await_external polled_spawn item_coroutine item_gather item_object open_from item open_place fill_place put_polled put_item step_item step_items step_gather_commit with_state set_gather open_gather_commit settle_as settle_gather_commit resume_in resume_as resume_after_child unwind turn commit_loop pending_in pending_count commit_gather_tree run yield new_function resume_next resume_after_task_exit handle_task_failure start_by start_task activate_state activate_within activate stays go_on await_coroutine await_external_future await_gather await_object exec_get_awaitable completed handle_task_completion apply_result apply_future_results wake_in_order make_coroutine make_pending make_settled put_items make_gather words_in_range places_below counts_in_range awaiter_in_range open_in_range object_in_range is_slot task_in_range numbers_in_range committed_places spawned_in_range items_below items_lower value_known option_known object_values state_values lists_completed entry_ready queue_ready is_ended same_call call_new calls_distinct is_task_of_at sole_task one_task is_task blocked_awaits blocked_at awaiter_blocked blocked_match is_filled rest_filled gather_filled object_filled places_filled source_open slot_open slots_open runs_now runner_in_range one_runs sound_view sound is_run in_running in_waiting in_both unmade any_of result_unknown bad_result full no_number refusals first_refusal refusal slot_value show_places shown is_empty can_await_eagerly switched answer_await end_main task_completes task_fails entries_lost runner repeat_wait resume_with_resolved_futures accept decide step after answers
computes = tt
