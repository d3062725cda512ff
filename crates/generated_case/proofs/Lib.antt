mod Numbers
mod Worked
