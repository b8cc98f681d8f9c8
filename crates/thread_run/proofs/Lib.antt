mod AskLaws
mod ProgramLaws
mod EndLaws
mod ScriptLaws
mod StepLaws
mod TestLaws
mod CourseLaws
mod WorkerLaws
