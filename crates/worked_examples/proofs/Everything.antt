-- What the worked examples compute with: every definition of every crate.
-- A table says `unfolding everything` itself, and its fact only names the table. A table that is shut until its fact opens it is computed
-- again and again: then one session takes more than the fifty million steps of a declaration.
use Rattle.basics.specs.Lists.{all_below, join_below, up_to}
use Rattle.basics.specs.Basics.{int2_string_no_leading_zero, nat2_string, int2_string, int64, comma, seq_to_string}
use Rattle.basics.specs.Outcome.{refuse, ◌>>◌, map_outcome}
use Rattle.basics.specs.Buffer.{overlay, buffer_after, scratch_after}
use Rattle.symbols.proofs.Opened.{opened}
use Rattle.book.specs.Refusal.{number}
use Rattle.book.specs.Book.{offset, size, field, entries, letter, name_text}
use Rattle.book.specs.Program.{node_at, path_up, path, depth, shared}
use Rattle.book.specs.Decode.{kind_of, to_rexprs, to_rpatterns, type_of, constant_of, function_of, literal_of, args_of, pattern_of, term_by, term_over, first_terms, term, literal_by, literal_at, axiom_term, axiom_of, trace_of, context_of, program}
use Rattle.book.specs.RExpr.{is_tag}
use Rattle.book_contents.specs.Contents.{laid_from, laid_out, count_fits, counts_fit}
use Rattle.book_fields.specs.Fields.{within, type_limit, entry_below, is_range, letter_in_range, name_in_range, type_in_range, constant_in_range, function_in_range, axiom_in_range, pattern_in_range, context_in_range, fields_in_range}
use Rattle.book_terms.specs.Terms.{is_zero, uses, kind_in_range, term_in_range, terms_in_range}
use Rattle.book_forest.specs.Forest.{entry_reference, range_references, pattern_references, listed_references, kind_references, term_references, axiom_references, context_references, references, all_smaller, no_twice, is_forest}
use Rattle.book_depth.specs.Depth.{steps, node_depth, is_shallow, shallow}
use Rattle.book_names.specs.Names.{plain_type, literal_named, says_named, record_named, section_named, term_named, names_good}
use Rattle.book_test.specs.BookTest.{in_range, book_test, ready, tested_value, book_test_call}
use Rattle.solver_expr.specs.SolverExpr.{type_to_sexpr, type_list, types_to_sexpr, type_to_string, flat, extra_indent, space, name_to_string, to_string, list_to_string, args_to_string, boolean, integer, id, func_appl, eq, negation, big_and}
use Rattle.solver_expr.specs.Lowering.{operator_name, literal_name, literal_to_string, bound_var_to_sexpr, bound_vars_to_sexpr, annotate, quantifier, to_sexpr, to_sexprs, patterns_to_sexprs}
use Rattle.solver_expr.specs.Operators.{operator_to_string, operator_of}
use Rattle.solver_expr.specs.Print.{printed_value, printed, fitting as fitting_text, print_text, print_call, operator_text, operator_call}
use Rattle.smt_engines.specs.SmtEngines.{CMD_PUSH, CMD_POP, CMD_CHECK_SAT, CMD_GET_MODEL, context_to_string}
use Rattle.smt_engines.specs.Command.{assumption, declaration, command_to_string, script}
use Rattle.smt_engines.specs.Reader.{glue, cut, lines, kind, join, dropped, hear_kind, hear, hear_all, read}
use Rattle.rsolver.specs.Step.{skip, ◌⨟◌, for, do_unless, unless, do_either, either}
use Rattle.rsolver.specs.LevelState.{place, literal_place, join_at, forget, count, has_name, name_in, no_levels, fresh, is_top, is_declared_at, push, pop, send, declare_at, miss, sent_by}
use Rattle.rsolver.specs.SolverState.{same_marker, is_in, with', new_solver, is_top as is_top_item, pushed, pop_to, popped, told, marked, named, missed}
use Rattle.rsolver.specs.REngine.{with_constants, declare_type, declare_constant, declare_function, declare_literal, assume, assume_not, check, ask_model, end_check, declare_new_types, declare_type_of, send_axiom, include_axiom, declare_operator, declare_symbols, declare_all_symbols, declare_pattern_symbols, walk, declare_new_symbols, enter, adjust_context, pop_times, set_context, ask_goal, close_goal}
use Rattle.rsolver.specs.Trace.{trace_line, trace_of as trace_of_path, print_trace, trace_text, trace_call}
use Rattle.rsolver.specs.Listing.{COMMA, roperator_to_string, bound_var_to_string, bound_vars_to_string, custom_literal_to_string, quantifier_opening, rexpr_to_string, rexpr_strings, patterns_to_string, rexpr_list_to_string, listing_line, print_context, print_proof_obligation, listing_text, listing_call}
use Rattle.literals.specs.Search.{named_at, first_named, literal_count, gone_through, search}
use Rattle.solvers.specs.Session.{text_of, fresh_session, resume, moved, asked, move, ask, closed, is_unsat, replied, give_reply, give_model}
use Rattle.solvers.specs.Calls.{owes, goal_fits, is_session, reason_of, fitting, move_call, ask_call, reply_call, model_call, host_of, call}
use Rattle.solvers.specs.Left.{answer_value, values_by, values, reason, session_after, left, called}
use Rattle.basics.specs.Bytes.{bytes4, row, rows}
use Rattle.solvers.specs.Image.{owed_number, owed_of, head_of, level_bytes, levels_in, write_image, no_session, is_kind, is_image, read_image, image_after, called_on_image}
use Rattle.solvers.specs.Narrow.{wide_of, narrow_of, is_narrow, widened, narrowed, write_narrow, no_narrow, is_narrow_image, read_narrow, answer_of, or_else, widen_call, narrow_call, widened_into, narrowed_into, widened_on_image, narrowed_on_image}
use Rattle.solvers.specs.Rule.{standing, settle, node_commands, levels_of, goal_state, goal_commands, denial_commands, goal_levels, levels_for, entering, move_commands, question_commands, present, next_reply, next, node_levels, must_live, session_at, reply_commands, said}
use Rattle.solvers.specs.ByBook.{move_by_book, ask_by_book, call_by_book}
use Rattle.number_lists.specs.Numbers.{numbers}
use Rattle.nodes_test.specs.NodesTest.{could_move, first_failing, all_inside, nodes_in, nodes_tested, nodes_tested_value, nodes_test_call}
use Rattle.command_lines.specs.CommandLines.{is_printing, mark_of, closing, step_outside, scan_byte, scan, is_shut, starts_with, opens_context, is_context, is_command, ended}
use Rattle.script_checks.specs.ScriptChecks.{is_lost, noted, checks_from, checks, is_foreign}
use Rattle.level_lines.specs.AsOften.{times_in, even_in, as_often, same_levels}
use Rattle.question_lists.specs.Questions.{questions_of, numbers_of, is_inside, is_complete, stack_for}
use Rattle.audit.specs.Audit.{has_no_tag, agreeing, verdict, audited, audit_call}
use Rattle.solvers.specs.Bodies.{on_reply, do_call}
use Rattle.stack_rule.specs.Events.{after, happens, run_from, start, run, straight_to, straight}
use Rattle.stack_rule.specs.Bodies.{do_if_accepted, do_event, do_from, do_all}

-- the book, and its test
unfoldable pub testing : Unit {0}
unfolding opened all_below join_below up_to refuse ◌>>◌ map_outcome overlay buffer_after scratch_after number offset size field entries letter name_text laid_from laid_out count_fits counts_fit within type_limit entry_below is_range letter_in_range name_in_range type_in_range constant_in_range function_in_range axiom_in_range pattern_in_range context_in_range fields_in_range is_zero uses kind_in_range term_in_range terms_in_range entry_reference range_references pattern_references listed_references kind_references term_references axiom_references context_references references all_smaller no_twice is_forest steps node_depth is_shallow shallow is_tag literal_of literal_by literal_at type_of plain_type literal_named says_named record_named section_named term_named names_good in_range book_test ready tested_value book_test_call kind_of
testing = tt

-- what a book holds, and how it is printed
unfoldable pub printing : Unit {0}
unfolding int2_string_no_leading_zero nat2_string int2_string int64 comma seq_to_string node_at path_up path depth to_rexprs to_rpatterns type_of constant_of function_of literal_of args_of pattern_of term_by term_over first_terms term literal_by literal_at axiom_term axiom_of trace_of context_of program type_to_sexpr type_list types_to_sexpr type_to_string flat extra_indent space name_to_string to_string list_to_string args_to_string boolean integer id func_appl eq negation big_and operator_name is_tag literal_name literal_to_string bound_var_to_sexpr bound_vars_to_sexpr annotate quantifier to_sexpr to_sexprs patterns_to_sexprs operator_to_string operator_of printed_value printed fitting_text print_text print_call operator_text operator_call
printing = tt

-- the solver's state and engine, and what they send
unfoldable pub sending : Unit {0}
unfolding CMD_PUSH CMD_POP CMD_CHECK_SAT CMD_GET_MODEL context_to_string assumption declaration command_to_string script skip ◌⨟◌ for do_unless unless do_either either place literal_place join_at forget count has_name name_in no_levels fresh is_top is_declared_at push pop send declare_at miss sent_by same_marker is_in with' new_solver is_top_item pushed pop_to popped told marked named missed with_constants declare_type declare_constant declare_function declare_literal assume assume_not check ask_model end_check declare_new_types declare_type_of send_axiom include_axiom declare_operator declare_symbols declare_all_symbols declare_pattern_symbols walk declare_new_symbols enter adjust_context pop_times set_context ask_goal close_goal trace_line trace_of_path print_trace trace_text trace_call
sending = tt

-- what is to be proved, as the fitter reads it
unfoldable pub listing : Unit {0}
unfolding COMMA roperator_to_string bound_var_to_string bound_vars_to_string custom_literal_to_string quantifier_opening rexpr_to_string rexpr_strings patterns_to_string rexpr_list_to_string listing_line print_context print_proof_obligation listing_text listing_call
listing = tt

-- the session's calls, lists of events, and the reader of their text
unfoldable pub calling : Unit {0}
unfolding text_of fresh_session resume moved asked move ask closed is_unsat replied give_reply give_model owes goal_fits is_session reason_of fitting move_call ask_call reply_call model_call host_of call answer_value values_by values reason session_after left called bytes4 owed_number owed_of head_of level_bytes levels_in write_image no_session is_kind is_image read_image image_after called_on_image shared standing settle node_commands levels_of goal_state goal_commands denial_commands goal_levels levels_for entering move_commands question_commands present next_reply next node_levels must_live session_at reply_commands said after happens run_from start run straight_to straight move_by_book ask_by_book call_by_book on_reply do_call do_if_accepted do_event do_from do_all glue cut lines kind join dropped hear_kind hear hear_all read
calling = tt

-- the turns of a session to the other kind
unfoldable pub turning : Unit {0}
unfolding wide_of narrow_of is_narrow widened narrowed write_narrow no_narrow is_narrow_image read_narrow answer_of or_else widen_call narrow_call widened_into narrowed_into widened_on_image narrowed_on_image
turning = tt

-- the search for a literal
unfoldable pub searching : Unit {0}
unfolding named_at first_named literal_count gone_through search
searching = tt

-- the test of a list of nodes
unfoldable pub reaching : Unit {0}
unfolding numbers could_move first_failing all_inside nodes_in nodes_tested nodes_tested_value nodes_test_call
reaching = tt

-- the audit of a foreign script
unfoldable pub auditing : Unit {0}
unfolding is_printing mark_of closing step_outside scan_byte scan is_shut starts_with opens_context is_context is_command ended is_lost noted checks_from checks is_foreign times_in even_in as_often same_levels questions_of numbers_of is_inside is_complete stack_for has_no_tag agreeing verdict audited audit_call
auditing = tt

unfoldable pub everything : Unit {0}
unfolding testing printing sending searching listing calling turning reaching auditing
everything = tt
