pub mod ResumeLaws
