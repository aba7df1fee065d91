mod Texts
mod Numbers
